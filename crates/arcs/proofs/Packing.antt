-- The rules of packing the components of an arc into a code: a constant and a VALUE word are a digit each, any other component by its value. The values so far are those of the first expressions, each is held against its
-- range, and as long as all are in range the code is theirs.
use mathlib.Core.Path.{◌≡◌, refl, sym, ap, ◌∙◌}
use Prim.Native.Nat.{ℕ, zero, suc, ◌+◌, ◌-◌, ◌*◌, ◌/◌, ◌%◌, ◌≤◌, ◌<◌, ◌^◌}
use mathlib.Core.Logic.{◌⊎◌, inl, inr}
use mathlib.Core.Bool.{Bool, true, false, cond, not, ◌&&◌, and-true, and_assoc}
use mathlib.Core.List.{List, [], ◌∷◌, ◌++◌, append-nil}
use mathlib.Core.Option as definitions
use mathlib.Core.Option.{none, some}
use Rattle.std.specs.Prelude.{Option, Some, None, is_some, IfSome}
use native.Mathlib.Numerals.{add-one}
use native.Mathlib.Omega.{arith}
use borrow.Author.Rules.{rules}
use borrow.Author.Tests.{eqb-true, eq-eqb, ltb-true, lt-ltb}
use lib.Dec.{eqb}
use lib.IntN.{ℤ, pos, negsuc}
use lib.ListN.{length, get_or, length-append}
use Rattle.semantics.specs.Word.{kind, payload, only, signed, within, value_word}
use Rattle.semantics.specs.Expression.{values_of}
use Rattle.semantics.specs.Reading.{several}
use Rattle.semantics.specs.ReadNet.{read_expression}
use Rattle.semantics.specs.Order.{in_ranges}
use Rattle.semantics.proofs.Tests.{false_true, either, and_left, and_right}
use Rattle.word.specs.Fields.{ends, range_word}
use Rattle.expression.specs.Standing.{HasExpression, HasSeveral}
use Rattle.evaluation.specs.Evaluate.{value_of, lent, valued, evaluated_from}
use Rattle.evaluation.proofs.Single.{begins_in_words, begin-fits, variable-there, constant_at, variable_at}
use Rattle.net.specs.Places.{ranges_from}
use Rattle.colours.specs.Code.{of_digit, coloured, IsCode}
use Rattle.net.proofs.Standing.{first_of, others_of}
use Rattle.colours.proofs.Ranging.{range_past, fourteen_bits}
use Rattle.colours.proofs.Codes.{code_start, code_behind, code_room, code_below, value_back}
use Rattle.arcs.specs.declared.flow.Component.{Component}
use Rattle.arcs.specs.declared.flow.Packed.{Packed}
use Rattle.arcs.specs.declared.flow.Packed.TheVariants.{Code, Outside, Nothing}
use Rattle.arcs.specs.Flow.{colour_at}
use Rattle.arcs.specs.Keys.{IsDigit, Componented, IsComponent, put_digit, Packs, IsPacked, Below}
use Rattle.evaluation.proofs.Answers.{known-valued}
use Rattle.arcs.proofs.Colours.{front, front_nil, front-front, colour-value, colour-none}

-- ── One component ──

module _ {ws bs : List ℕ} {at : ℕ} (h : HasExpression ws (length bs) at) {k : ℕ} (e : k ≡ kind (get_or ws at 0)) where
  pub constant-digit : {d : ℕ} → k ≡ 7 → of_digit d ≡ signed (get_or ws at 0 % 16384) → d < 16384 → IsComponent ws bs at (Some (record { digit = Some d; next = at + 1 }))
  constant-digit {d} i f l = record { told = (of_digit d, sym (constant_at ws bs at h e i f), (refl, l)) }

  pub variable-told : {u : ℕ} {r : Option Component} → u ≡ payload (get_or ws at 0) → k ≡ 8 → Componented (valued (value_of (get_or bs u 0)) (at + 1)) r → IsComponent ws bs at r
  variable-told g i f = record { told = rw (variable_at ws bs at h e g i) f }

-- a word of the binding, by its upper bits
module _ (w next : ℕ) where
  pub word_none : (w / 16384 ≡ 0x30000 → ⊥) → Componented (valued (value_of w) next) None
  word_none f = (next, ap (λ (o : definitions.Option ℤ). valued o next) (by (either (eqb (kind w) 0xC && only 14 (payload w)))))
    where
      by : ((eqb (kind w) 0xC && only 14 (payload w)) ≡ true) ⊎ ((eqb (kind w) 0xC && only 14 (payload w)) ≡ false) → value_of w ≡ none
      by (inl t) =
          let a = eqb-true (kind w) 0xC (and_left (eqb (kind w) 0xC) _ t) in
          let b = ltb-true (payload w) 16384 (and_right (eqb (kind w) 0xC) _ t) in
          absurd (f (omega arith))
      by (inr t) = rw t

  pub word-digit : {d : ℕ} → w / 16384 ≡ 0x30000 → of_digit d ≡ signed (w % 16384) → d < 16384 → Componented (valued (value_of w) next) (Some (record { digit = Some d; next = next }))
  word-digit {d} e f l =
      let a : eqb (kind w) 0xC ≡ true = eq-eqb (kind w) 0xC (omega arith) in
      let b : only 14 (payload w) ≡ true = lt-ltb (payload w) 16384 (omega arith) in
      let p : payload w ≡ w % 16384 = omega arith in
      (of_digit d, rw (a, b, p, f), (refl, l))

module _ (ws bs : List ℕ) (at : ℕ) {o : definitions.Option ℤ} {p : ℕ} (h : valued o p ≡ evaluated_from (lent bs) (read_expression ws (length bs) at)) where
  pub computed_none : o ≡ none → IsComponent ws bs at None
  computed_none d = record { told = (p, sym (rw d at h)) }

  -- a value is its digit where it has 14 bits, else it is in no range
  pub computed-digit : {z : ℤ} {w k : ℕ} → o ≡ some z → w ≡ value_word z → of_digit k ≡ signed (w % 16384) → k < 16384 → {r : Option ℕ} → r ≡ cond (within (ends (negsuc 8191) (pos 8191)) z) (Some k) None → IsComponent ws bs at (Some (record { digit = r; next = p }))
  computed-digit {z} {w} {k} d g j l {r} e = record { told = (z, sym (rw d at h), rw e (by (within (ends (negsuc 8191) (pos 8191)) z) refl)) }
    where
      by : (t : Bool) → within (ends (negsuc 8191) (pos 8191)) z ≡ t → IsDigit z (cond t (Some k) None)
      by true f = (sym (j ∙ ap (λ (u : ℕ). signed (u % 16384)) g ∙ value_back z (fourteen_bits 0 z refl (ap not f))), l)
      by false f = λ range. sym (range_past range z refl (ap not f))

pub ruleset components = (rules, begins_in_words, begin-fits, variable-there, constant-digit, variable-told, word_none, word-digit, computed_none, computed-digit)

-- ── Held against its range ──

is-cond : (t : Bool) (k : ℕ) → is_some (cond t (Some k) None) ≡ t
is-cond true k = refl
is-cond false k = refl

-- all are in range where those before are and this one is
put-inside : (c : Option ℕ) (range : ℕ) (d : Option ℕ) (z : ℤ) → IsDigit z d → is_some (put_digit c range d) ≡ (is_some c && within (range_word range) z)
put-inside None range d z h = refl
put-inside (Some code) range None z h = sym (h range)
put-inside (Some code) range (Some d) z h = is-cond (within (range_word range) (of_digit d)) (code * 16384 + d) ∙ ap (within (range_word range)) (sym h.0)

-- and then it stands behind their code
put-behind : {i : ℕ} {vs : List ℤ} (c : Option ℕ) (range : ℕ) (d : Option ℕ) (z : ℤ) → IsDigit z d → ((k : ℕ) → c ≡ Some k → IsCode i vs k) → (k : ℕ) → put_digit c range d ≡ Some k → IsCode (suc i) (vs ++ (z ∷ [])) k
put-behind None range d z h f k e = false_true (cc)
put-behind (Some code) range None z h f k e = false_true (cc)
put-behind {i} {vs} (Some code) range (Some d) z h f k e = by (within (range_word range) (of_digit d)) e
  where
    by : (t : Bool) → cond t (Some (code * 16384 + d)) None ≡ Some k → IsCode (suc i) (vs ++ (z ∷ [])) k
    by true i = let j : code * 16384 + d ≡ k = cc in rw j at (code_behind (f code refl) d z h.1 (sym h.0))
    by false i = false_true (cc)

-- ── The loop ──

ranges-behind : (ws : List ℕ) (n at : ℕ) (vs : List ℤ) (z : ℤ) → length vs ≡ n → in_ranges (ranges_from ws (suc n) at) (vs ++ (z ∷ [])) ≡ (in_ranges (ranges_from ws n at) vs && within (range_word (get_or ws (at + n) 0)) z)
unfolding in_ranges ranges_from
ranges-behind ws zero at [] z l = let e : at + 0 ≡ at = omega arith in rw e (and-true (within (range_word (get_or ws at 0)) z))
ranges-behind ws zero at (v ∷ vs) z l = absurd (omega arith)
ranges-behind ws (suc n) at [] z l = absurd (omega arith)
ranges-behind ws (suc n) at (v ∷ vs) z l =
    let e : at + suc n ≡ at + 1 + n = omega arith in
    rw (e, ranges-behind ws n (at + 1) vs z (omega arith)) (sym (and_assoc (within (range_word (get_or ws at 0)) v) (in_ranges (ranges_from ws n (at + 1)) vs) (within (range_word (get_or ws (at + 1 + n) 0)) z)))

-- the i first of n components
pub record Packing (ws bs : List ℕ) (ranges n at i next : ℕ) (c : Option ℕ) : Type 0 where
  pub values : List ℤ
  pub inside : i ≤ n
  pub many : length values ≡ i
  pub same : front values (colour_at ws bs (n - i) next) ≡ colour_at ws bs n at
  pub ranged : is_some c ≡ in_ranges (ranges_from ws i ranges) values
  pub coded : (k : ℕ) → c ≡ Some k → IsCode i values k
  pub stand : HasSeveral ws (length bs) (n - i) next

pub packing_start : (ws bs : List ℕ) (ranges n at : ℕ) → HasSeveral ws (length bs) n at → Packing ws bs ranges n at 0 at (Some 0)
unfolding in_ranges ranges_from
packing_start ws bs ranges n at h =
    let e : n - 0 ≡ n = omega arith in
    record {
      values = [];
      inside = omega arith;
      many = refl;
      same = ap (λ (k : ℕ). front [] (colour_at ws bs k at)) e ∙ front_nil (colour_at ws bs n at);
      ranged = refl;
      coded = λ k f. let g : k ≡ 0 = cc in rw g code_start;
      stand = rw e h;
    }

module _ {ws bs : List ℕ} {ranges n at i next : ℕ} {c : Option ℕ} (a : Packing ws bs ranges n at i next c) where
  module _ (h : n ≤ i) where
    whole : colour_at ws bs n at ≡ some a.values
    unfolding several values_of
    whole =
        let g = a.inside in
        let d : n - i ≡ 0 = omega arith in
        sym (ap some (sym (append-nil a.values)) ∙ sym (ap (λ (k : ℕ). front a.values (colour_at ws bs k next)) d) ∙ a.same)

    all : n ≡ i
    all = let g = a.inside in omega arith

    pub packing_code : {k : ℕ} → c ≡ Some k → IsPacked ws bs ranges n at (Code k)
    packing_code {k} e =
        let b = a.coded k e in
        let s : coloured n k ≡ a.values = ap (λ (m : ℕ). coloured m k) all ∙ b.same in
        record { packs = (whole ∙ ap some (sym s), rw all b.small, rw (s, all) (sym a.ranged ∙ ap is_some e)) }

    pub packing_outside : c ≡ None → IsPacked ws bs ranges n at Outside
    packing_outside e = record { packs = (a.values, whole, rw all (sym a.ranged ∙ ap is_some e)) }

  module _ (h : i < n) where
    ahead : (o : definitions.Option (List ℤ)) → colour_at ws bs (suc (n - (i + 1))) next ≡ o → front a.values o ≡ colour_at ws bs n at
    ahead o e =
        let d : n - i ≡ suc (n - (i + 1)) = omega arith in
        sym (ap (λ (k : ℕ). front a.values (colour_at ws bs k next)) d ∙ ap (front a.values) e) ∙ a.same

    several-stand : HasSeveral ws (length bs) (suc (n - (i + 1))) next
    several-stand = let d : n - i ≡ suc (n - (i + 1)) = omega arith in rw d at a.stand

    pub packing_first : HasExpression ws (length bs) next
    packing_first = first_of several-stand

    pub packing_room : n ≤ 4 → IfSome c (λ k. k < 2 ^ 42)
    packing_room l = by c a.coded
      where
        by : (c : Option ℕ) → ((k : ℕ) → c ≡ Some k → IsCode i a.values k) → IfSome c (λ k. k < 2 ^ 42)
        by None f = tt
        by (Some k) f = code_room i k (omega arith) (f k refl).small

    pub packing_turn : {t : Component} {range : ℕ} {r : Option ℕ} → IsComponent ws bs next (Some t) → range ≡ get_or ws (ranges + i) 0 → r ≡ put_digit c range t.digit → Packing ws bs ranges n at (i + 1) t.next r
    packing_turn {t} {range} x e f =
        let z = x.told.0 in
        let v = known-valued ws bs next x.told.1 in
        record {
          values = a.values ++ (z ∷ []);
          inside = omega arith;
          many = let m = length-append a.values (z ∷ []) in let k = a.many in omega arith;
          same = front-front a.values (z ∷ []) (colour_at ws bs (n - (i + 1)) t.next) ∙ ahead (front (z ∷ []) (colour_at ws bs (n - (i + 1)) t.next)) (colour-value (n - (i + 1)) v);
          ranged = rw f (put-inside c range t.digit z x.told.2 ∙ rw (a.ranged, e, add-one i) (sym (ranges-behind ws i ranges a.values z a.many)));
          coded = λ k g. rw (add-one i) (put-behind c range t.digit z x.told.2 a.coded k (sym f ∙ g));
          stand = others_of several-stand v.reads;
        }

    pub packing_past : {t : Component} → IsComponent ws bs next (Some t) → t.digit ≡ None → Packing ws bs ranges n at (i + 1) t.next None
    packing_past {t} x e = packing_turn {range = get_or ws (ranges + i) 0} x refl (by c t.digit e)
      where
        by : (c d : Option ℕ) → d ≡ None → None ≡ put_digit c (get_or ws (ranges + i) 0) d
        by None d h = refl
        by (Some k) d h = rw h refl

    pub packing_nothing : IsComponent ws bs next None → IsPacked ws bs ranges n at Nothing
    packing_nothing x = record { packs = sym (ahead none (colour-none (n - (i + 1)) (known-valued ws bs next x.told.1))) }

pub digit_low : {ws bs : List ℕ} {at : ℕ} {t : Component} → IsComponent ws bs at (Some t) → IfSome t.digit (λ d. d < 16384)
digit_low {t = t} x = by t.digit x.told.2
  where
    by : (d : Option ℕ) → IsDigit x.told.0 d → IfSome d (λ d. d < 16384)
    by None h = tt
    by (Some d) h = h.1

pub ruleset packing = (rules, packing_start, packing_first, packing_room, digit_low, packing_turn, packing_nothing, packing_code, packing_outside)

-- a code of at most four components leaves room for a place above it
pub packed_below : {ws bs : List ℕ} {ranges n at : ℕ} {r : Packed} → n ≤ 4 → IsPacked ws bs ranges n at r → Below r
packed_below {ws} {bs} {ranges} {n} {at} {r} h x = by r x.packs
  where
    by : (r : Packed) → Packs ws ranges n (colour_at ws bs n at) r → Below r
    by (Code k) y = code_below n k h y.1
    by Outside y = tt
    by Nothing y = tt
