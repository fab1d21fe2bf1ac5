-- Laws of keys: those of colours that their places can have are equal just where place and colour are, and rise as these do. So sums over
-- flows are sums over keys.
use mathlib.Core.Path.{◌≡◌, refl, sym, ap}
use mathlib.Core.Logic.{◌⊎◌, inl, inr}
use Prim.Native.Nat.{ℕ, ◌≤◌, ◌<◌, ◌^◌}
use mathlib.Core.Bool.{Bool, true, false, cond, ◌&&◌, ◌||◌}
use mathlib.Core.List.Memᴰ
use mathlib.Core.List.{List, [], ◌∷◌, Memᴰ}
use mathlib.Core.Option.{Option, none, some}
use native.Mathlib.Omega.{arith}
use borrow.Author.Tests.{eqb-true, eqb-false, eq-eqb, ne_eqb, ltb-false, lt-ltb, leb-true, leb-false}
use lib.Dec.{leb, ltb, eqb}
use lib.IntN.{ℤ}
use Rattle.semantics.specs.Lists.{Every, every, select}
use Rattle.semantics.specs.Net.{ranges_at}
use Rattle.semantics.specs.Order.{same_integer, same_tuple, before, in_ranges}
use Rattle.semantics.specs.Marking.{Counts, key}
use Rattle.semantics.specs.Enabling.{Flow, total, covers, covers_all}
use Rattle.semantics.proofs.Tests.{either, not_both, same_test, every_fails}
use Rattle.semantics.proofs.Enabling.{amount-within, covers_all_lem, all_covers}
use Rattle.net.specs.Places.{places_at}
use Rattle.colours.proofs.Codes.{code_same, code_before}
use Rattle.arcs.specs.Keys.{key_place, key_code, width_of, key_colour, key_flow, key_flows, KeyFits, fits_at}
use Rattle.gathering.specs.Gather.{moving, gathered_by, sum_of}

-- ── Two keys ──

module _ {ws ps : List ℕ} {j k : ℕ} (x : KeyFits ws ps j) (y : KeyFits ws ps k) where
  same_place : key_place j ≡ key_place k → key_code j < 16384 ^ width_of ws ps (key_place k)
  same_place e = rw (← e) x.small

  colours_same : key_place j ≡ key_place k → same_tuple (key_colour ws ps j) (key_colour ws ps k) ≡ eqb (key_code j) (key_code k)
  colours_same e = rw e (code_same (width_of ws ps (key_place k)) (key_code j) (key_code k) (same_place e) y.small)

  -- "naming them": the test of `total`
  pub keys_same : (eqb (key_place j) (key_place k) && same_tuple (key_colour ws ps j) (key_colour ws ps k)) ≡ eqb j k
  keys_same = by (either (eqb (key_place j) (key_place k)))
    where
      by : (eqb (key_place j) (key_place k) ≡ true) ⊎ (eqb (key_place j) (key_place k) ≡ false) → (eqb (key_place j) (key_place k) && same_tuple (key_colour ws ps j) (key_colour ws ps k)) ≡ eqb j k
      by (inl t) =
          let e = eqb-true (key_place j) (key_place k) t in
          rw (t, colours_same e) (same_test (eqb (key_code j) (key_code k)) (eqb j k) (λ u. eq-eqb j k (let d = eqb-true (key_code j) (key_code k) u in omega arith)) (λ u. eq-eqb (key_code j) (key_code k) (let d = eqb-true j k u in omega arith)))
      by (inr t) = rw t (sym (ne_eqb j k (λ d. eqb-false (key_place j) (key_place k) t (omega arith))))

-- ── Sums ──

pub keys_total : {ws ps : List ℕ} (ks as' : List ℕ) {k : ℕ} → Every (KeyFits ws ps) ks → KeyFits ws ps k → total (key_flows ws ps ks as') (key_place k) (key_colour ws ps k) ≡ sum_of ks as' k
unfolding total key_flows sum_of
keys_total [] as' e y = refl
keys_total (j ∷ ks) [] e y = refl
keys_total (j ∷ ks) (a ∷ as') {k} e y = rw (keys_same e.0 y, keys_total ks as' e.1 y)

-- ── Flows that move something ──

pub total-moving : (fs : List Flow) (p : ℕ) (c : List ℤ) → total (select moving fs) p c ≡ total fs p c
unfolding total select
total-moving [] p c = refl
total-moving (f ∷ fs) p c = by (total-moving fs p c) (either (moving f))
  where
    none-moved : (t : Bool) (n : ℕ) → n ≡ 0 → cond t n 0 ≡ 0
    none-moved true n e = e
    none-moved false n e = refl

    by : total (select moving fs) p c ≡ total fs p c → (moving f ≡ true) ⊎ (moving f ≡ false) → total (select moving (f ∷ fs)) p c ≡ total (f ∷ fs) p c
    by h (inl t) = rw (t, h)
    by h (inr t) =
        let z = leb-false 1 f.amount t in
        rw (t, h, none-moved (eqb f.place p && same_tuple f.colour c) f.amount (omega arith)) (omega arith)

-- counts of colours that their places can have
abbrev pub Ranged : List ℕ → List ℕ → Counts → Type 0
Ranged ws ps m = (p : ℕ) (c : List ℤ) → 1 ≤ m p c → in_ranges (ranges_at (places_at ws ps) p) c ≡ true

-- covered are all flows just where those are that move something, and none of these is of a colour that its place cannot have
pub covers-gathered : (ws ps : List ℕ) (m : Counts) → Ranged ws ps m → (o : Option (List Flow)) → covers_all m o ≡ covers_all m (gathered_by ws ps o)
covers-gathered ws ps m r none = refl
covers-gathered ws ps m r (some fs) = by (either (every (fits_at ws ps) fs))
  where
    same : covers m fs ≡ covers m (select moving fs)
    same = same_test (covers m fs) (covers m (select moving fs)) (λ t. all_covers m (select moving fs) (λ p c. rw (total-moving fs p c) (covers_all_lem m fs t p c))) (λ t. all_covers m fs (λ p c. rw (← total-moving fs p c) (covers_all_lem m (select moving fs) t p c)))

    unfit : (f : Flow) → Memᴰ f fs → fits_at ws ps f ≡ false → covers m fs ≡ false
    unfit f i e = test (either (covers m fs))
      where
        test : (covers m fs ≡ true) ⊎ (covers m fs ≡ false) → covers m fs ≡ false
        test (inl t) = absurd (parts (either (eqb f.amount 0)))
          where
            parts : (eqb f.amount 0 ≡ true) ⊎ (eqb f.amount 0 ≡ false) → ⊥
            parts (inl u) = not_both true refl (rw u at e)
            parts (inr u) =
                let h = amount-within fs i in
                let g = covers_all_lem m fs t f.place f.colour in
                not_both (in_ranges (ranges_at (places_at ws ps) f.place) f.colour) (r f.place f.colour (some-marked f.amount (eqb-false f.amount 0 u) (omega arith))) (rw u at e)
              where
                some-marked : (n : ℕ) → (n ≡ 0 → ⊥) → n ≤ m f.place f.colour → 1 ≤ m f.place f.colour
                some-marked n d h = one (either (leb 1 n))
                  where
                    one : (leb 1 n ≡ true) ⊎ (leb 1 n ≡ false) → 1 ≤ m f.place f.colour
                    one (inl v) = let l = leb-true 1 n v in omega arith
                    one (inr v) = let l = leb-false 1 n v in absurd (d (omega arith))
        test (inr t) = t

    by : (every (fits_at ws ps) fs ≡ true) ⊎ (every (fits_at ws ps) fs ≡ false) → covers m fs ≡ covers_all m (gathered_by ws ps (some fs))
    by (inl t) = rw t same
    by (inr t) = let g = every_fails (fits_at ws ps) fs t in rw t (unfit g.0 g.1 g.2)

-- ── Order ──

-- keys rise as places and colours do
pub keys_before : {ws ps : List ℕ} {j k : ℕ} → KeyFits ws ps j → KeyFits ws ps k → j < k → before (key (key_place j) (key_colour ws ps j)) (key (key_place k) (key_colour ws ps k)) ≡ true
unfolding before same_integer
keys_before {ws} {ps} {j} {k} x y h = by (either (ltb (key_place j) (key_place k)))
  where
    by : (ltb (key_place j) (key_place k) ≡ true) ⊎ (ltb (key_place j) (key_place k) ≡ false) → (ltb (key_place j) (key_place k) || (eqb (key_place j) (key_place k) && before (key_colour ws ps j) (key_colour ws ps k))) ≡ true
    by (inl t) = rw t
    by (inr t) =
        let l = ltb-false (key_place j) (key_place k) t in
        let e : key_place j ≡ key_place k = omega arith in
        let c : before (key_colour ws ps j) (key_colour ws ps k) ≡ ltb (key_code j) (key_code k) = rw e (code_before (width_of ws ps (key_place k)) (key_code j) (key_code k) (same_place x y e) y.small) in
        rw (t, eq-eqb (key_place j) (key_place k) e, c, lt-ltb (key_code j) (key_code k) (omega arith))

-- the flows of keys are of these keys
pub flow_keyed : (ws ps ks as' : List ℕ) {f : Flow} → Memᴰ f (key_flows ws ps ks as') → (k : ℕ) × Memᴰ k ks × (f.place ≡ key_place k) × (f.colour ≡ key_colour ws ps k)
unfolding key_flows
flow_keyed ws ps [] as' m = absurd (Memᴰ.not-nil m)
flow_keyed ws ps (j ∷ ks) [] m = absurd (Memᴰ.not-nil m)
flow_keyed ws ps (j ∷ ks) (a ∷ as') {f} m = by (λ n. flow_keyed ws ps ks as' n) (Memᴰ.cases_cons m)
  where
    by : (Memᴰ f (key_flows ws ps ks as') → (k : ℕ) × Memᴰ k ks × (f.place ≡ key_place k) × (f.colour ≡ key_colour ws ps k)) → (f ≡ key_flow ws ps j a) ⊎ Memᴰ f (key_flows ws ps ks as') → (k : ℕ) × Memᴰ k (j ∷ ks) × (f.place ≡ key_place k) × (f.colour ≡ key_colour ws ps k)
    by g (inl e) = (j, Memᴰ.head refl, ap (λ (f : Flow). f.place) e, ap (λ (f : Flow). f.colour) e)
    by g (inr n) = let r = g n in (r.0, Memᴰ.tail r.1, r.2, r.3)
