-- 01, "Enabling and stepping" and refusals 13, 14 and 15: an occurrence leads to the counts of a step, or is refused with the number of
-- the first demand on a step that fails: enabled (13), delivers (14), no count above 16,383 (15).
-- One look at the tests in their order gives the four cases of an occurrence with the facts of each; the theorems read them off.
-- 15 is tested at the colours that outputs name: elsewhere a count does not grow, so it stays in its limit.
-- Rests on Tests and Enabling.
use mathlib.Core.Path.{◌≡◌, refl, sym, ap, ap₂, ◌∙◌, subst}
use mathlib.Core.Bool.{true, false}
use mathlib.Core.Logic.{◌⊎◌, inl, inr, ◌↔◌}
use mathlib.Core.List.{List}
use mathlib.Core.Option.{Option, none, some, mem_unique, none-ne-some}
use Prim.Native.Nat.{ℕ, ◌≤◌}
use native.Mathlib.Omega.{arith}
use borrow.Author.Tests.{leb-true, le-leb, eqb-true, eqb-false}
use lib.Dec.{eqb}
use lib.IntN.{ℤ}
use Rattle.semantics.specs.Refusal.{not_enabled, bad_output, over_count, most_count}
use Rattle.semantics.specs.Lists.{every}
use Rattle.semantics.specs.Expression.{bound}
use Rattle.semantics.specs.Net.{Transition, Net, ranges_at}
use Rattle.semantics.specs.Order.{in_ranges}
use Rattle.semantics.specs.Marking.{Counts}
use Rattle.semantics.specs.Enabling.{Flow, effect, Enabled, Fits, Delivers, Step, flows, is_enabled, Firing, moved, stopped, fits, within_counts, occur_by, occur}
use Rattle.semantics.proofs.Tests.{either, not_both, or_cases, or_left, or_right, every_at, every_of, every_sound, every_complete}
use Rattle.semantics.proofs.Enabling.{at_named, flows_move, move_flows, moves_unique, enabled_sound, enabled_complete}

-- ── What 14 and 15 test ──

fits_sound : (net : Net) (f : Flow) → fits net f ≡ true → Fits net f
fits_sound net f e positive = by (or_cases (eqb f.amount 0) (in_ranges (ranges_at net.places f.place) f.colour) e)
  where
    by : (eqb f.amount 0 ≡ true) ⊎ (in_ranges (ranges_at net.places f.place) f.colour ≡ true) → in_ranges (ranges_at net.places f.place) f.colour ≡ true
    by (inl z) = let z' = eqb-true f.amount 0 z in absurd (omega arith)
    by (inr r) = r

fits_complete : (net : Net) (f : Flow) → Fits net f → fits net f ≡ true
fits_complete net f h = by (either (eqb f.amount 0))
  where
    by : (eqb f.amount 0 ≡ true) ⊎ (eqb f.amount 0 ≡ false) → fits net f ≡ true
    by (inl z) = or_left _ _ z
    by (inr z) = let n = eqb-false f.amount 0 z in or_right (eqb f.amount 0) _ (h (omega arith))

-- counts as 01 allows them
abbrev pub Limited : Counts → Type 0
Limited m = (p : ℕ) (c : List ℤ) → m p c ≤ most_count

module _ (m : Counts) (ins outs : List Flow) where
  pub within_all : Limited m → within_counts m ins outs ≡ true → Limited (effect m ins outs)
  within_all limited e = at_named (λ p c. effect m ins outs p c ≤ most_count) outs (λ f k. leb-true _ _ (every_at _ e k)) (λ p c z. omega (arith, limited p c))

  pub all_within : Limited (effect m ins outs) → within_counts m ins outs ≡ true
  all_within h = every_of _ outs (λ f k. le-leb _ _ (h f.place f.colour))

-- ── Occurrences ──

-- each result of an occurrence with what is then the case
pub data Occurrence (table : List ℕ) (net : Net) (t : Transition) (m : Counts) (b : List ℤ) : Firing → Type 0 where
  blocked : ¬ Enabled table t m b → Occurrence table net t m b (stopped not_enabled)
  undelivered : Enabled table t m b → ¬ Delivers table net t b → Occurrence table net t m b (stopped bad_output)
  overfull : (e : Enabled table t m b) (d : Delivers table net t b) → within_counts m e.taken d.made ≡ false → Occurrence table net t m b (stopped over_count)
  stepped : (e : Enabled table t m b) (d : Delivers table net t b) → within_counts m e.taken d.made ≡ true → Occurrence table net t m b (moved (effect m e.taken d.made))

module _ (table : List ℕ) (net : Net) (t : Transition) (m : Counts) (b : List ℤ) where
  -- what an occurrence takes and makes, and the counts after it, do not hang on the proof
  taken_unique : (e e' : Enabled table t m b) → e.taken ≡ e'.taken
  taken_unique e e' = moves_unique table (bound b) t.inputs e.taken e'.taken e.inputs e'.inputs

  made_unique : (d d' : Delivers table net t b) → d.made ≡ d'.made
  made_unique d d' = moves_unique table (bound b) t.outputs d.made d'.made d.outputs d'.outputs

  after_unique : (e e' : Enabled table t m b) (d d' : Delivers table net t b) → effect m e.taken d.made ≡ effect m e'.taken d'.made
  after_unique e e' d d' = ap₂ (effect m) (taken_unique e e') (made_unique d d')

  -- an enabled occurrence, by its output flows
  delivery : (e : Enabled table t m b) (o : Option (List Flow)) → flows table (bound b) t.outputs ≡ o → Occurrence table net t m b (occur_by net m (some e.taken) o)
  delivery e none p = undelivered e (λ d. none-ne-some d.made (sym p ∙ move_flows table (bound b) t.outputs d.made d.outputs))
  delivery e (some outs) p = by (either (every (fits net) outs)) (either (within_counts m e.taken outs))
    where
      given : every (fits net) outs ≡ true → Delivers table net t b
      given f = record { made = outs; outputs = flows_move table (bound b) t.outputs outs p; placed = every_sound (fits net) (Fits net) outs (fits_sound net) f }

      unfit : every (fits net) outs ≡ false → ¬ Delivers table net t b
      unfit f d =
          let same = mem_unique (move_flows table (bound b) t.outputs d.made d.outputs) p in
          not_both (every (fits net) outs) (rw same at (every_complete (fits net) (Fits net) d.made (fits_complete net) d.placed)) f

      by : (every (fits net) outs ≡ true) ⊎ (every (fits net) outs ≡ false) → (within_counts m e.taken outs ≡ true) ⊎ (within_counts m e.taken outs ≡ false) → Occurrence table net t m b (occur_by net m (some e.taken) (some outs))
      by (inl f) (inl w) = rw (f, w) (stepped e (given f) w)
      by (inl f) (inr w) = rw (f, w) (overfull e (given f) w)
      by (inr f) w = rw f (undelivered e (unfit f))

  -- an occurrence leads to new counts or is refused with 13, 14 or 15, and nothing else
  pub occur_cases : Occurrence table net t m b (occur table net t m b)
  unfolding occur
  occur_cases = by (either (is_enabled table t m b))
    where
      by : (is_enabled table t m b ≡ true) ⊎ (is_enabled table t m b ≡ false) → Occurrence table net t m b (occur table net t m b)
      by (inl q) =
          let e = enabled_sound table t m b q in
          rw (q, move_flows table (bound b) t.inputs e.taken e.inputs) (delivery e (flows table (bound b) t.outputs) refl)
      by (inr q) = rw q (blocked (λ e. not_both (is_enabled table t m b) (enabled_complete table t m b e) q))

  -- a step occurs, with its effect; and what occurs is a step
  pub step-occurs : (s : Step table net t m b) → occur table net t m b ≡ moved (effect m s.enabled.taken s.delivers.made)
  step-occurs s = by occur_cases
    where
      by : {x : Firing} → Occurrence table net t m b x → x ≡ moved (effect m s.enabled.taken s.delivers.made)
      by (blocked n) = absurd (n s.enabled)
      by (undelivered e n) = absurd (n s.delivers)
      by (overfull e d w) = absurd (not_both _ (all_within m e.taken d.made (subst Limited (after_unique s.enabled e s.delivers d) s.within)) w)
      by (stepped e d w) = ap moved (after_unique e s.enabled d s.delivers)

  -- what is the case for a result that is known
  known : {x : Firing} → occur table net t m b ≡ x → Occurrence table net t m b x
  known q = subst (Occurrence table net t m b) q occur_cases

  pub occurs-step : Limited m → (m' : Counts) → occur table net t m b ≡ moved m' → (s : Step table net t m b) × (m' ≡ effect m s.enabled.taken s.delivers.made)
  occurs-step limited m' q = by (known q)
    where
      by : {n : Counts} → Occurrence table net t m b (moved n) → (s : Step table net t m b) × (n ≡ effect m s.enabled.taken s.delivers.made)
      by (stepped e d w) = (record { enabled = e; delivers = d; within = within_all m e.taken d.made limited w }, refl)

  -- 13, 14 and 15, each exactly where its demand is the first that fails
  pub refused_13 : (occur table net t m b ≡ stopped not_enabled) ↔ ¬ Enabled table t m b
  refused_13 = (λ q. to (known q), from occur_cases)
    where
      to : Occurrence table net t m b (stopped not_enabled) → ¬ Enabled table t m b
      to (blocked n) = n

      from : {x : Firing} → Occurrence table net t m b x → ¬ Enabled table t m b → x ≡ stopped not_enabled
      from (blocked n) h = refl
      from (undelivered e n) h = absurd (h e)
      from (overfull e d w) h = absurd (h e)
      from (stepped e d w) h = absurd (h e)

  pub refused_14 : (occur table net t m b ≡ stopped bad_output) ↔ (Enabled table t m b × ¬ Delivers table net t b)
  refused_14 = (λ q. to (known q), from occur_cases)
    where
      to : Occurrence table net t m b (stopped bad_output) → Enabled table t m b × ¬ Delivers table net t b
      to (undelivered e n) = (e, n)

      from : {x : Firing} → Occurrence table net t m b x → Enabled table t m b × ¬ Delivers table net t b → x ≡ stopped bad_output
      from (blocked n) h = absurd (n h.0)
      from (undelivered e n) h = refl
      from (overfull e d w) h = absurd (h.1 d)
      from (stepped e d w) h = absurd (h.1 d)

  pub refused_15 : Limited m → (occur table net t m b ≡ stopped over_count) ↔ ((e : Enabled table t m b) × ((d : Delivers table net t b) × ¬ Limited (effect m e.taken d.made)))
  refused_15 limited = (λ q. to (known q), from occur_cases)
    where
      Over : Type 0
      Over = (e : Enabled table t m b) × ((d : Delivers table net t b) × ¬ Limited (effect m e.taken d.made))

      to : Occurrence table net t m b (stopped over_count) → Over
      to (overfull e d w) = (e, (d, λ h. not_both _ (all_within m e.taken d.made h) w))

      from : {x : Firing} → Occurrence table net t m b x → Over → x ≡ stopped over_count
      from (blocked n) h = absurd (n h.0)
      from (undelivered e n) h = absurd (n h.1.0)
      from (overfull e d w) h = refl
      from (stepped e d w) h = absurd (h.1.1 (subst Limited (after_unique e h.0 d h.1.0) (within_all m e.taken d.made limited w)))
