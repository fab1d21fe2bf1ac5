-- The rules of an arc: one for each arm of the code. The arc stands at its position, so its flow is that of its coefficient and its components, which stand
-- one after the other.
use mathlib.Core.Path.{◌≡◌, refl, sym, ap, ◌∙◌}
use mathlib.Core.Logic.{◌⊎◌, inl, inr}
use Prim.Native.Nat.{ℕ, ◌+◌, ◌*◌, ◌/◌, ◌%◌, ◌≤◌, ◌<◌, ◌^◌}
use mathlib.Core.Bool.{true, false}
use mathlib.Core.List.{List}
use mathlib.Core.Option.{Option, none, some, bind}
use native.Mathlib.Nat.{pos_of_ne-zero}
use native.Mathlib.Omega.{arith}
use borrow.Author.Rules.{rules}
use mir.Syntax.{w64}
use mir.Val.{Fits}
use borrow.Author.Tests.{eqb-true, eqb-false}
use lib.Dec.{eqb}
use lib.IntN.{ℤ, pos, negsuc}
use lib.ListN.{length, get_or}
use Rattle.semantics.specs.Word.{payload}
use Rattle.semantics.specs.Expression.{house_table, value, values_of}
use Rattle.semantics.specs.ReadNet.{read_expression}
use Rattle.semantics.specs.Net.{ranges_at}
use Rattle.expression.specs.Standing.{HasSeveral}
use Rattle.semantics.specs.Enabling.{flow_by, flow}
use Rattle.semantics.proofs.Tests.{false_true, either}
use Rattle.evaluation.specs.Evaluate.{lent}
use Rattle.net.specs.Places.{ranges_from, places_at, PlacesFit}
use Rattle.net.specs.Standing.{HasArc}
use Rattle.net.proofs.Standing.{place_of, coefficient-inside, parts, arc-inside, place-there, components-read, coefficient-stands, components-stand}
use Rattle.net.proofs.Placed.{ranges_at_lem, fits_at_lem, place_inside, place-room}
use Rattle.colours.proofs.Codes.{code_below}
use Rattle.std.specs.Prelude as prelude
use Rattle.std.specs.Prelude.{Some, None}
use Rattle.semantics.specs.Answer.{option_of}
use Rattle.arcs.specs.declared.flow.Packed.{Packed}
use Rattle.arcs.specs.declared.flow.Packed.TheVariants.{Code, Outside as Packed-outside, Nothing as Packed-none}
use Rattle.arcs.specs.declared.flow.Moved.{Moved}
use Rattle.arcs.specs.declared.flow.Moved.TheVariants.{Idle, Nothing}
use Rattle.arcs.specs.Flow.{colour_at, tokens_by, coefficient_of, flow_at}
use Rattle.arcs.specs.Keys.{width_of, Packs, IsPacked, moved_by, Says, IsMoved}
use Rattle.arcs.proofs.Packing.{packed_below}

-- ── An arc ──

-- its place
module _ {ws ps : List ℕ} {v at : ℕ} (a : HasArc ws ps v at) where
  pub arc-fits : Fits w64 (at + 1)
  arc-fits = let h = (coefficient-inside ws (places_at ws ps) v at a.reads).1 in record { fits = omega arith }

  module _ {q : ℕ} (g : q ≡ place_of ws at) where
    module _ (f : PlacesFit ws ps) where
      pub place-few : q < 64
      place-few = let h = place-there a g in let l = f.few in omega arith

      module _ {w : ℕ} (d : w ≡ payload (get_or ws (get_or ps q 0) 0)) where
        pub place-narrow : w ≤ 4
        place-narrow = rw d (fits_at_lem f q (place-there a g)).narrow

module _ {ws ps : List ℕ} (bs : List ℕ) {at : ℕ} (a : HasArc ws ps (length bs) at) where
  flow-read : flow_at ws ps bs at ≡ bind (value house_table (lent bs) a.arc.coefficient) (λ z. bind (values_of house_table (lent bs) a.arc.components) (λ c. flow_by a.arc.place z c))
  unfolding flow
  flow-read = rw a.reads

  tokens_read : (r : prelude.Option (ℕ × ℕ)) → option_of r ≡ coefficient_of (lent bs) (read_expression ws (length bs) (at + 1)) → option_of r ≡ tokens_by (parts a).mid (value house_table (lent bs) a.arc.coefficient)
  tokens_read r y = rw (parts a).coefficient at y

  module _ {r : prelude.Option (ℕ × ℕ)} (y : option_of r ≡ coefficient_of (lent bs) (read_expression ws (length bs) (at + 1))) where
    -- no tokens: the coefficient has no value or is negative
    pub moves_nothing : r ≡ None → IsMoved ws ps bs at Nothing
    unfolding bind
    moves_nothing d = record { says = by (value house_table (lent bs) a.arc.coefficient) refl (rw d at (tokens_read r y)) }
      where
        negative : (n : ℕ) (o : Option (List ℤ)) → bind o (λ c. flow_by a.arc.place (negsuc n) c) ≡ none
        negative n none = refl
        negative n (some c) = refl

        by : (v : Option ℤ) → value house_table (lent bs) a.arc.coefficient ≡ v → none ≡ tokens_by (parts a).mid v → flow_at ws ps bs at ≡ none
        by none i f = flow-read ∙ rw i
        by (some (pos n)) i f = false_true (cc)
        by (some (negsuc n)) i f = flow-read ∙ rw i (negative n (values_of house_table (lent bs) a.arc.components))

    -- so many tokens
    module _ {n next : ℕ} (d : r ≡ Some (n, next)) where
      coefficient : (value house_table (lent bs) a.arc.coefficient ≡ some (pos n)) × (next ≡ (parts a).mid)
      coefficient = by (value house_table (lent bs) a.arc.coefficient) refl (rw d at (tokens_read r y))
        where
          by : (v : Option ℤ) → value house_table (lent bs) a.arc.coefficient ≡ v → some (n, next) ≡ tokens_by (parts a).mid v → (value house_table (lent bs) a.arc.coefficient ≡ some (pos n)) × (next ≡ (parts a).mid)
          by none i f = false_true (cc)
          by (some (negsuc k)) i f = false_true (cc)
          by (some (pos k)) i f =
              let e : ◌≡◌ {A = ℕ × ℕ} (n, next) (k, (parts a).mid) = cc in
              (i ∙ ap (λ (p : ℕ × ℕ). some (pos p.0)) (sym e), ap (λ (p : ℕ × ℕ). p.1) e)

      module _ {q : ℕ} (g : q ≡ place_of ws at) where
        -- its components stand behind it, as many as the place has
        pub behind-coefficient : {w : ℕ} → w ≡ payload (get_or ws (get_or ps q 0) 0) → HasSeveral ws (length bs) w next
        behind-coefficient f = rw (f, coefficient.1, g) (components-stand a)

        -- the arc's flow, by its colour
        coloured-flow : flow_at ws ps bs at ≡ bind (colour_at ws bs (width_of ws ps q) next) (λ c. some (record { place = q; amount = n; colour = c }))
        unfolding bind
        coloured-flow = flow-read ∙ rw (coefficient.0, coefficient.1, g, components-read a, (parts a).place)

        pub moves : PlacesFit ws ps → {w : ℕ} {s : Packed} {m : Moved} → w ≡ payload (get_or ws (get_or ps q 0) 0) → IsPacked ws bs (get_or ps q 0 + 1) w next s → m ≡ moved_by q n s → IsMoved ws ps bs at m
        unfolding bind
        moves f {s = s} e x i = rw i (record { says = by s (rw e at x.packs) })
          where
            h : q < length ps
            h = place-there a g

            -- the ranges that the colour was held against are those of the place
            place-ranges : ranges_at (places_at ws ps) q ≡ ranges_from ws (width_of ws ps q) (get_or ps q 0 + 1)
            place-ranges = ranges_at_lem ws ps q h

            told : {c : List ℤ} → colour_at ws bs (width_of ws ps q) next ≡ some c → flow_at ws ps bs at ≡ some (record { place = q; amount = n; colour = c })
            told e = coloured-flow ∙ rw e

            idle : {c : List ℤ} → colour_at ws bs (width_of ws ps q) next ≡ some c → n ≡ 0 → Says ws ps (flow_at ws ps bs at) Idle
            idle {c} e z = (record { place = q; amount = n; colour = c }, told e, z)

            code : (k : ℕ) → Packs ws (get_or ps q 0 + 1) (width_of ws ps q) (colour_at ws bs (width_of ws ps q) next) (Code k) → (eqb n 0 ≡ true) ⊎ (eqb n 0 ≡ false) → Says ws ps (flow_at ws ps bs at) (moved_by q n (Code k))
            code k y (inl t) = rw t (idle y.0 (eqb-true n 0 t))
            code k y (inr t) =
                let b = code_below (width_of ws ps q) k (fits_at_lem f q h).narrow y.1 in
                let i : (q * 2 ^ 56 + k) / 2 ^ 56 ≡ q = omega arith in
                let j : (q * 2 ^ 56 + k) % 2 ^ 56 ≡ k = omega arith in
                let z : 1 ≤ n = pos_of_ne-zero (eqb-false n 0 t) in
                rw (t, i, j) (told y.0, record { there = rw i h; small = rw (i, j) y.1; ranged = rw (i, j, place-ranges) y.2 }, z)

            outside : Packs ws (get_or ps q 0 + 1) (width_of ws ps q) (colour_at ws bs (width_of ws ps q) next) Packed-outside → (eqb n 0 ≡ true) ⊎ (eqb n 0 ≡ false) → Says ws ps (flow_at ws ps bs at) (moved_by q n Packed-outside)
            outside y (inl t) = rw t (idle y.1 (eqb-true n 0 t))
            outside y (inr t) = rw t (record { place = q; amount = n; colour = y.0 }, told y.1, rw (t, place-ranges) y.2)

            by : (s : Packed) → Packs ws (get_or ps q 0 + 1) (width_of ws ps q) (colour_at ws bs (width_of ws ps q) next) s → Says ws ps (flow_at ws ps bs at) (moved_by q n s)
            by (Code k) y = code k y (either (eqb n 0))
            by Packed-outside y = outside y (either (eqb n 0))
            by Packed-none y = coloured-flow ∙ rw y

pub ruleset moving-arc = (rules, arc-inside, arc-fits, coefficient-stands, place-there, place-few, place_inside, place-narrow, place-room, behind-coefficient, packed_below, moves_nothing, moves)
