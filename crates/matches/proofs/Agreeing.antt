-- The rules of a colour held against components: each component is one turn, and what is still ahead is what was ahead at first.
use mathlib.Core.Path.{◌≡◌, refl, sym, ap, ◌∙◌, subst}
use mathlib.Core.Bool.{Bool, true, false, not, cond}
use mathlib.Core.List.{List, [], ◌∷◌}
use mathlib.Core.Option.{Option, none, some, bind}
use Prim.Native.Nat.{ℕ, ◌+◌, ◌%◌, ◌≤◌, ◌<◌}
use native.Mathlib.Numerals.{add-one}
use borrow.Author.Rules.{rules}
use lib.IntN.{ℤ, pos}
use lib.ListN.{length, get_or, get_elem?, set, take, drop, length-set, drop_of_length-le}
use lib.Seq.{drop-cons, get_or-take, length-take-le}
use Rattle.semantics.specs.Word.{signed, Range, within, value_word}
use Rattle.semantics.specs.Expression.{given}
use Rattle.semantics.specs.Order.{same_integer}
use Rattle.semantics.specs.Tries.{Partial, partly, bind_new, agree}
use Rattle.std.specs.Prelude as prelude
use Rattle.std.specs.Prelude.{Some, None}
use Rattle.semantics.specs.Answer.{option_of}
use Rattle.word.specs.Fields.{range_word}
use Rattle.evaluation.specs.Evaluate.{value_of}
use Rattle.net.specs.Places.{ranges_from}
use Rattle.colours.specs.Values.{values_at}
use Rattle.colours.proofs.Comparing.{values_length, values_at_lem}
use Rattle.matches.specs.declared.colour.Met.{Met}
use Rattle.matches.specs.declared.colour.Met.TheVariants.{Agrees, Differs, Takes}
use Rattle.tries.specs.Partial.{partial_of}
use Rattle.matches.specs.Met.{part_try, met_if, met_of, MetInside, IsMet, matched_by}
use Rattle.tries.proofs.Slots.{slot_read, slot_beyond, tried_on}
use Rattle.tries.proofs.Binding.{range-beyond, bind-outside, bind-inside}

pub given-cond : {A : Type 0} (u : Bool) (a : A) → given u a ≡ cond u (some a) none
given-cond true a = refl
given-cond false a = refl

-- ── One component ──

met_given : (v : ℕ) (b : List ℕ) (u : Bool) → met_of v b (met_if u) ≡ given u (partial_of v b)
met_given v b true = refl
met_given v b false = refl

met_inside : (v : ℕ) (u : Bool) → MetInside v (met_if u)
met_inside v true = tt
met_inside v false = tt

-- a test that decides
met_if_lem : {v : ℕ} {b : List ℕ} {o : Option Partial} {r : Met} (u : Bool) → r ≡ met_if u → given u (partial_of v b) ≡ o → IsMet v b o r
met_if_lem {v} {b} {o} u e f = subst (IsMet v b o) (sym e) (record { same = met_given v b u ∙ f; inside = met_inside v u })

module _ (ws : List ℕ) (v at : ℕ) (b : List ℕ) (n : ℕ) (z : ℤ) where
  pub met_beyond : v ≤ n → IsMet v b (agree (ranges_from ws v at) (partial_of v b) n (partly (partial_of v b) n) z) Differs
  met_beyond h = record { same = rw (slot_beyond v n b h, range-beyond ws v at n h); inside = tt }

  module _ (h : n < v) (x : prelude.Option ℤ) (e : option_of x ≡ value_of (get_or b n 0)) where
    slot : partly (partial_of v b) n ≡ option_of x
    slot = slot_read v n b h ∙ sym e

    pub met_old : {old : ℤ} (u : Bool) {r : Met} → x ≡ Some old → u ≡ same_integer old z → r ≡ met_if u → IsMet v b (agree (ranges_from ws v at) (partial_of v b) n (partly (partial_of v b) n) z) r
    met_old {old} u d f g =
        let s : partly (partial_of v b) n ≡ some old = slot ∙ ap option_of d in
        met_if_lem u g (rw (s, ← f) (given-cond u (partial_of v b)))

    new_slot : x ≡ None → {o : Option Partial} → o ≡ bind_new (partial_of v b) n (get_elem? (ranges_from ws v at) n) z → o ≡ agree (ranges_from ws v at) (partial_of v b) n (partly (partial_of v b) n) z
    new_slot d f =
        let s : partly (partial_of v b) n ≡ none = slot ∙ ap option_of d in
        rw s f

    module _ (d : x ≡ None) {u : Bool} (f : u ≡ within (range_word (get_or ws (at + n) 0)) z) where
      pub met_outside : not u ≡ true → IsMet v b (agree (ranges_from ws v at) (partial_of v b) n (partly (partial_of v b) n) z) Differs
      met_outside k = record { same = new_slot d (bind-outside ws v at b n z h f k); inside = tt }

      pub met_takes : {w : ℕ} → not u ≡ false → w ≡ value_word z → IsMet v b (agree (ranges_from ws v at) (partial_of v b) n (partly (partial_of v b) n) z) (Takes n w)
      met_takes k g = record { same = new_slot d (bind-inside ws v at b n z h f k g); inside = h }

-- ── A colour ──

-- i components have agreed
pub record Agreeing (ranges : List Range) (v : ℕ) (b ms : List ℕ) (at width : ℕ) (parts : List ℕ) (i : ℕ) (cur : List ℕ) : Type 0 where
  pub full : length cur ≡ v
  pub ahead : matched_by ranges (drop i (take width parts)) (drop i (values_at ms width at)) (partial_of v cur) ≡ matched_by ranges (take width parts) (values_at ms width at) (partial_of v b)

pub held_start : (ranges : List Range) (v : ℕ) (b ms : List ℕ) (at width : ℕ) (parts : List ℕ) → length b ≡ v → Agreeing ranges v b ms at width parts 0 b
held_start ranges v b ms at width parts l = record { full = l; ahead = refl }

module _ {ranges : List Range} {v : ℕ} {b ms : List ℕ} {at width : ℕ} {parts : List ℕ} {i : ℕ} {cur : List ℕ} (h : Agreeing ranges v b ms at width parts i cur) (l : width ≤ length parts) where
  module _ (k : i < width) {r : Met} (m : IsMet v cur (part_try ranges (get_or parts i 0) (signed (get_or ms (at + i) 0 % 16384)) (partial_of v cur)) r) where
    next-part : drop i (take width parts) ≡ get_or parts i 0 ∷ drop (i + 1) (take width parts)
    next-part = drop-cons (take width parts) i 0 (rw (length-take-le width parts l) k) ∙ rw (get_or-take width parts i 0 k, add-one i)

    next-value : drop i (values_at ms width at) ≡ signed (get_or ms (at + i) 0 % 16384) ∷ drop (i + 1) (values_at ms width at)
    next-value = drop-cons (values_at ms width at) i (pos 0) (rw (values_length ms width at) k) ∙ rw (values_at_lem ms width at i k, add-one i)

    here : matched_by ranges (take width parts) (values_at ms width at) (partial_of v b) ≡ bind (met_of v cur r) (matched_by ranges (drop (i + 1) (take width parts)) (drop (i + 1) (values_at ms width at)))
    unfolding matched_by
    here = sym h.ahead ∙ rw (next-part, next-value) (ap (λ (o : Option Partial). bind o (matched_by ranges (drop (i + 1) (take width parts)) (drop (i + 1) (values_at ms width at)))) (sym m.same))

    pub held_stops : r ≡ Differs → none ≡ matched_by ranges (take width parts) (values_at ms width at) (partial_of v b)
    unfolding bind
    held_stops d = sym (here ∙ ap (λ (x : Met). bind (met_of v cur x) (matched_by ranges (drop (i + 1) (take width parts)) (drop (i + 1) (values_at ms width at)))) d)

    pub held_agrees : r ≡ Agrees → Agreeing ranges v b ms at width parts (i + 1) cur
    unfolding bind
    held_agrees d = record { full = h.full; ahead = sym (here ∙ ap (λ (x : Met). bind (met_of v cur x) (matched_by ranges (drop (i + 1) (take width parts)) (drop (i + 1) (values_at ms width at)))) d) }

    pub held_takes : {n w : ℕ} → r ≡ Takes n w → Agreeing ranges v b ms at width parts (i + 1) (set cur n w)
    unfolding bind
    held_takes {n} {w} d = record { full = length-set cur n w ∙ h.full; ahead = sym (here ∙ ap (λ (x : Met). bind (met_of v cur x) (matched_by ranges (drop (i + 1) (take width parts)) (drop (i + 1) (values_at ms width at)))) d) }

    pub takes_inside : {n w : ℕ} → r ≡ Takes n w → n < v
    takes_inside d = subst (MetInside v) d m.inside

  pub held_ends : width ≤ i → some (partial_of v cur) ≡ matched_by ranges (take width parts) (values_at ms width at) (partial_of v b)
  unfolding matched_by
  held_ends k =
      let n : drop i (take width parts) ≡ [] = drop_of_length-le (take width parts) {i = i} (rw (length-take-le width parts l) k) in
      sym (rw n) ∙ h.ahead

-- the same, of slots that are equal
pub held_same : {ranges : List Range} {v : ℕ} {b ms : List ℕ} {at width : ℕ} {parts : List ℕ} {i : ℕ} {cur cur' : List ℕ} → cur' ≡ cur → Agreeing ranges v b ms at width parts i cur → Agreeing ranges v b ms at width parts i cur'
held_same {ranges} {v} {b} {ms} {at} {width} {parts} {i} e h = subst (Agreeing ranges v b ms at width parts i) (sym e) h

pub ruleset agreeing = (rules, tried_on, held_start, held_same, held_stops, held_agrees, held_takes, takes_inside, held_ends)
