-- Words that are read alike: no reader looks past the word 16,384 (semantics/proofs/Prefix).
use Rattle.std.specs.Prelude.{◌≡◌, List, ℕ, take}

-- a record, so that a proof does not compute 16,385 steps to compare two of them
pub record ReadAlike (ws us : List ℕ) : Type 0 where
  pub first : take 16385 ws ≡ take 16385 us
