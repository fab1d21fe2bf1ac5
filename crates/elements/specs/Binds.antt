-- The variables that a match, a solve or a range binds, told from where its arc or conjunct stands in the words of a net that was read.
-- plans/proofs/Fitness shows that they are what semantics says of the transition there. Rests on net/specs/Skim.
use Rattle.std.specs.Prelude.{ℕ, zero, suc, Bool, cond, not, ◌&&◌, List, [], ◌∷◌, ◌++◌, ltb, eqb, get_or}
use Rattle.std.proofs.Math.Seq.{slice}
use Rattle.semantics.specs.Lists.{every}
use Rattle.semantics.specs.Word.{between}
use Rattle.semantics.specs.Reading.{Reading, read, refused, word}
use Rattle.expression.proofs.Laws.{variable_passes}
use Rattle.kinds.specs.Taken.{fits_kind}
use Rattle.net.specs.Skim.{skim_expression}

-- what follows a reading that succeeds
abbrev pub after : {A : Type 0} → Reading A → (A → ℕ → List ℕ) → List ℕ
after (read a next) k = k a next
after (refused n p) k = []

-- a variable of v, if it is unbound
abbrev pub unbound_of : ℕ → (ℕ → Bool) → ℕ → List ℕ
unbound_of v is_bound n = cond (ltb n v && not (is_bound n)) (n ∷ []) []

-- an unbound variable of v that stands alone at a position
abbrev pub lone_at : List ℕ → ℕ → (ℕ → Bool) → ℕ → List ℕ
lone_at ws v is_bound at = after (word ws 8 (fits_kind 8) at) (λ n next. unbound_of v is_bound n)

-- those of so many expressions, one after the other
unfoldable pub lone_from : List ℕ → ℕ → (ℕ → Bool) → ℕ → ℕ → List ℕ
lone_from ws v is_bound zero at = []
lone_from ws v is_bound (suc k) at = lone_at ws v is_bound at ++ after (skim_expression ws v at) (λ u next. lone_from ws v is_bound k next)

-- of an arc whose coefficient is one CONSTANT of 1 to 8,191
unfoldable pub match_at : List ℕ → List ℕ → ℕ → (ℕ → Bool) → ℕ → List ℕ
match_at ws widths v is_bound at =
    after (word ws 5 (fits_kind 5) at) (λ q next. after (word ws 7 (fits_kind 7) next) (λ z from. cond (between 1 8191 z) (lone_from ws v is_bound (get_or widths q 0) from) []))

-- whether the words from a position to another have only bound variables
unfoldable pub all_bound : List ℕ → (ℕ → Bool) → ℕ → ℕ → Bool
all_bound ws is_bound from to = every (variable_passes is_bound) (slice from to ws)

-- the unknown alone at a position, the words from one position to another being known
abbrev pub solved_at : List ℕ → ℕ → (ℕ → Bool) → ℕ → ℕ → ℕ → List ℕ
solved_at ws v is_bound at from to = cond (all_bound ws is_bound from to) (lone_at ws v is_bound at) []

abbrev pub first_of : List ℕ → List ℕ → List ℕ
first_of [] ns = ns
first_of (m ∷ ms) ns = m ∷ ms

-- of an = conjunct, whose left side goes from `left` to `right` and its right side from there to `end`
unfoldable pub solve_at : List ℕ → ℕ → (ℕ → Bool) → ℕ → List ℕ
solve_at ws v is_bound at =
    after (word ws 6 (fits_kind 6) at) (λ k left. cond (eqb k 0) (after (skim_expression ws v left) (λ u right. after (skim_expression ws v right) (λ u end. first_of (solved_at ws v is_bound left right end) (solved_at ws v is_bound right left right)))) [])
