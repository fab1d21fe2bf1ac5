-- What the functions that print a transition's menu are handed, and what they answer.
-- Rests on semantics/specs/Print, text/specs/Put and rows/specs/Rows.
use Rattle.std.specs.Prelude.{◌≡◌, ℕ, length}
use mathlib.Core.List.{List, flat_map}
use Rattle.semantics.specs.Expression.{house_table}
use Rattle.semantics.specs.Reading.{read}
use Rattle.semantics.specs.Run.{offer}
use Rattle.semantics.specs.Calls.{Situation, situation}
use Rattle.semantics.specs.Print.{line, fields, offer_text}
use Rattle.rows.specs.Rows.{rows_of}
use Rattle.text.specs.Put.{Put}

-- the lines of n rows of VALUE words
abbrev pub rows_text : ℕ → ℕ → List ℕ → List ℕ
rows_text width n ws = flat_map (λ b. line (fields b)) (rows_of width n ws)

-- net, transition and marking are accepted, and the transition has so many variables
pub record Ready (ws : List ℕ) (t : ℕ) (ms : List ℕ) (width : ℕ) : Type 0 where
  pub there : Situation
  pub same : situation ws t ms ≡ read there 0
  pub wide : width ≡ length there.transition.variables

-- the text of a transition's menu, put into a buffer
pub record IsMenuText (ws : List ℕ) (t : ℕ) (ms : List ℕ) (before : List ℕ) (end : ℕ) (after : List ℕ) : Type 0 where
  pub put : (s : Situation) → situation ws t ms ≡ read s 0 → Put before 0 (offer_text t (offer house_table s.net 1000000 4096 s.transition s.counts)) after end
