-- Cost and rows of a plan by its first element: they are those of its tries, one after the other.
use mathlib.Core.Path.{◌≡◌, refl, ap, ◌∙◌}
use mathlib.Core.Bool.{Bool}
use mathlib.Core.List.{List, [], ◌∷◌, ◌++◌, map, map-append}
use mathlib.Core.Option.{Option, none, some}
use lib.IntN.{ℤ}
use Rattle.semantics.specs.Lists.{cons_if, select}
use Rattle.semantics.specs.Expression.{house_table}
use Rattle.semantics.specs.Net.{Element}
use Rattle.semantics.specs.Enabling.{is_enabled}
use Rattle.semantics.specs.Tries.{Partial, binding_of, tries, count_tries, gather, tries_from, leaves_from}
use Rattle.semantics.specs.Calls.{Situation}
use Rattle.gathering.proofs.Gathering.{select_append}
use Rattle.search.specs.Search.{cost_from, rows_from}
use Rattle.search.proofs.Trying.{rows_over}

-- ── Lists ──

rows_gather : (t : List ℤ → Bool) (f : Partial → List Partial) (os : List (Option Partial)) → select t (map binding_of (gather f os)) ≡ rows_over (λ p. select t (map binding_of (f p))) os
unfolding gather rows_over select
rows_gather t f [] = refl
rows_gather t f (none ∷ os) = rows_gather t f os
rows_gather t f (some p ∷ os) =
    ap (select t) (map-append binding_of (f p) (gather f os))
    ∙ select_append t (map binding_of (f p)) (map binding_of (gather f os))
    ∙ ap (λ (l : List (List ℤ)). select t (map binding_of (f p)) ++ l) (rows_gather t f os)

-- ── Plans ──

module _ (s : Situation) where
  pub cost_step : (e : Element) (es : List Element) (p : Partial) → cost_from s (e ∷ es) p ≡ count_tries (cost_from s es) (tries house_table s.net s.transition s.counts e.sort p)
  unfolding tries_from
  cost_step e es p = refl

  pub rows_step : (e : Element) (es : List Element) (p : Partial) → rows_from s (e ∷ es) p ≡ rows_over (rows_from s es) (tries house_table s.net s.transition s.counts e.sort p)
  unfolding leaves_from
  rows_step e es p = rows_gather (is_enabled house_table s.transition s.counts) (leaves_from house_table s.net s.transition s.counts es) (tries house_table s.net s.transition s.counts e.sort p)

  pub cost_leaf : (p : Partial) → cost_from s [] p ≡ 0
  unfolding tries_from
  cost_leaf p = refl

  pub rows_leaf : (p : Partial) → rows_from s [] p ≡ cons_if (is_enabled house_table s.transition s.counts (binding_of p)) (binding_of p) []
  unfolding leaves_from select
  rows_leaf p = refl
