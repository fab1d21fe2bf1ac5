-- `search::walk::element_at` meets its contract: the 28 bits of the word there.
use mathlib.Core.Path.{ap, ◌∙◌}
use Prim.Native.Nat.{ℕ}
use Rattle.semantics.specs.Word.{bits}
use Rattle.semantics.specs.ReadNet.{sort_of}
use Rattle.search.proofs.walk.element_at.Goals as goal

pub returns : goal.returns
returns c = c.element_of.ensures ∙ ap (λ (p : ℕ). sort_of (bits 8 9 p) (bits 0 7 p)) c.payload.ensures.0
