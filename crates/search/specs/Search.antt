-- What a search comes to: its tries, and the enabled bindings among its leaves.
-- Rests on semantics/specs/{Tries, Enabling, Calls} and semantics/proofs/Settled.
use Rattle.std.specs.Prelude.{◌≡◌, Bool, List, map, ℕ, ℤ, Result}
use Rattle.semantics.specs.declared.Listed.{Listed}
use Rattle.semantics.specs.declared.refusal.Refusal.{Refusal}
use Rattle.semantics.specs.Answer.{listed_of}
use Rattle.semantics.specs.Lists.{select}
use Rattle.semantics.specs.Expression.{house_table}
use Rattle.semantics.specs.Net.{Element}
use Rattle.semantics.specs.Enabling.{is_enabled}
use Rattle.semantics.specs.Tries.{Partial, binding_of, tries_from, leaves_from}
use Rattle.semantics.specs.Calls.{Situation, MenuEnd}
use Rattle.semantics.proofs.Settled.{kept, Settled}

-- ── Tries and rows from a partial binding on ──

-- "W is all tries"
abbrev pub cost_from : Situation → List Element → Partial → ℕ
cost_from s es p = tries_from house_table s.net s.transition s.counts es p

-- the enabled bindings among the leaves, in the order in which they are come to
abbrev pub rows_from : Situation → List Element → Partial → List (List ℤ)
rows_from s es p = select (is_enabled house_table s.transition s.counts) (map binding_of (leaves_from house_table s.net s.transition s.counts es p))

-- the positions of the input arcs that leaves look up, from a partial binding and the elements to come on: all others are settled at every leaf
pub record Settling (s : Situation) (inputs tested : List ℕ) (es : List Element) (p : Partial) : Type 0 where
  pub mask : List Bool
  pub same : tested ≡ kept mask inputs
  pub settled : Settled house_table s.counts s.transition mask es p

-- answer and menu, as the definition of the call has them
abbrev pub menu_end : Result Listed Refusal → List ℕ → MenuEnd
menu_end r buffer = record { answer = listed_of r; buffer = buffer }
