-- What the functions that print a part are handed, and what they answer.
-- Rests on Texts and text/specs/Put.
use Rattle.std.specs.Prelude.{◌≡◌, List, [], ℕ, suc, ltb, length, get_or}
use Rattle.semantics.specs.Reading.{read}
use Rattle.semantics.specs.Net.{Net}
use Rattle.semantics.specs.Plan.{accept_net}
use Rattle.semantics.specs.Marking.{read_marking}
use Rattle.text.specs.Put.{Put}
use Rattle.printed.specs.declared.part.Part.{Part}
use Rattle.printed.specs.Texts.{marking_texts}

-- the part of a number among the texts, put into a buffer
pub record IsPart (ts : List (List ℕ)) (i : ℕ) (before : List ℕ) (r : Part) (after : List ℕ) : Type 0 where
  pub text : Put before 0 (get_or ts i []) after r.written
  pub more : r.more ≡ ltb (suc i) (length ts)

-- the words are an accepted net
pub record Accepts (ws : List ℕ) : Type 0 where
  pub net : Net
  pub next : ℕ
  pub accepted : accept_net ws ≡ read net next

-- the part of a number for an accepted net and the words of a marking
pub record IsNetPart (ws ms : List ℕ) (i : ℕ) (before : List ℕ) (r : Part) (after : List ℕ) : Type 0 where
  pub part : (net : Net) (next : ℕ) → accept_net ws ≡ read net next → IsPart (marking_texts net (read_marking net ms)) i before r after
