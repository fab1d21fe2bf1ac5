-- The rules of firing: each return is told by the definition of the call. What is taken and made, gathered as keys, are the flows of the transition
-- that move something; so the counts after are those of the definition, and are within the limit just where it says so.
use mathlib.Core.Path.{◌≡◌, refl, sym, ap, ◌∙◌, subst, fun_ext}
use mathlib.Core.Logic.{◌⊎◌, inl, inr}
use Prim.Native.Nat.{ℕ, ◌≤◌, ◌<◌}
use mathlib.Core.Bool.{Bool, true, false, cond, not, ◌&&◌}
use mathlib.Core.List.{List, [], ◌∷◌, ◌++◌, Memᴰ}
use mathlib.Core.Option.{Option, none, some}
use native.Mathlib.Omega.{arith}
use borrow.Author.Tests.{le-leb, leb-true, not-true, not-false}
use lib.IntN.{ℤ}
use lib.ListN.{length, take}
use Rattle.std.specs.Prelude.{Result, Err}
use Rattle.semantics.specs.declared.refusal.Refusal.{Refusal}
use Rattle.semantics.specs.declared.refusal.Refusal.TheVariants.{NotEnabled, BadOutput}
use Rattle.semantics.specs.Refusal.{most_count, over_count}
use Rattle.semantics.specs.Lists.{Every, every, select}
use Rattle.semantics.specs.Expression.{house_table, bound, given}
use Rattle.semantics.specs.Reading.{read}
use Rattle.semantics.specs.Net.{Place, Arc}
use Rattle.semantics.specs.Marking.{Counts, Proper, counts_of}
use Rattle.semantics.specs.Enabling.{Flow, total, effect, holds, flows, covers, covers_all, is_enabled, fits, within_counts, Firing, moved, stopped, occur_by, occur}
use Rattle.semantics.specs.Run.{roomed, fire}
use Rattle.semantics.proofs.Tests.{either, and_right, not_both, same_test, Every-at, every_at, every_of}
use Rattle.semantics.proofs.Enabling.{at_named, covers_all_lem}
use Rattle.semantics.proofs.Markings.{step-proper}
use Rattle.semantics.proofs.Step.{Limited, within_all, all_within, occurs-step}
use Rattle.semantics.proofs.Members.{none-some}
use Rattle.net.specs.Places.{PlacesFit}
use Rattle.net.specs.Standing.{HasConjunct, HasArc}
use Rattle.net.proofs.Standing.{inputs-stand, outputs-stand, conjuncts-stand}
use Rattle.marking.specs.Marked.{marking_read, Begins}
use Rattle.marking.proofs.Counted.{marking_counts}
use Rattle.arcs.specs.Flow.{flows_at}
use Rattle.guards.specs.Guard.{guard_at}
use Rattle.arcs.specs.Keys.{key_place, key_colour, key_flows, fits_at}
use Rattle.gathering.specs.declared.gather.Gathered.{Gathered}
use Rattle.gathering.specs.Gather.{moving, gathered_by, IsGathered}
use Rattle.gathering.proofs.Keyed.{total-moving, flow_keyed}
use Rattle.occurrence.specs.Answers.{IsEnabledAt, IsTaken}
use Rattle.occurrence.proofs.Covering.{enabled_unguarded, enabled_unmoved, keys_few, keys_paired, keys_fit}
use Rattle.occurrence.proofs.Reading.{inputs-told, outputs-told, enabled-told}
use Rattle.changes.specs.Keys.{keys_from}
use Rattle.firing.specs.Fire.{FireableAt}
use Rattle.changes.specs.Changes.{Keyed, Moves, after, within, Sees}
use Rattle.steps.specs.Steps.{FiredTo, Stepping, IsStep}
use Rattle.changes.proofs.Sorted.{sort_in, keys_all}

-- flows that were gathered
record Gathers (ws ps : List ℕ) (o : Option (List Flow)) (ks as' : List ℕ) : Type 0 where
  flows-are : List Flow
  told : o ≡ some flows-are
  fit : every (fits_at ws ps) flows-are ≡ true
  moving-are : select moving flows-are ≡ key_flows ws ps ks as'

gathers : (ws ps : List ℕ) (o : Option (List Flow)) (ks as' : List ℕ) → some (key_flows ws ps ks as') ≡ gathered_by ws ps o → Gathers ws ps o ks as'
gathers ws ps none ks as' e = none-some (sym e)
gathers ws ps (some fs) ks as' e = by (either (every (fits_at ws ps) fs))
  where
    by : (every (fits_at ws ps) fs ≡ true) ⊎ (every (fits_at ws ps) fs ≡ false) → Gathers ws ps (some fs) ks as'
    by (inl h) =
        let a : some (key_flows ws ps ks as') ≡ some (select moving fs) = e ∙ ap (λ (t : Bool). given t (select moving fs)) h in
        let b : key_flows ws ps ks as' ≡ select moving fs = cc in
        record { flows-are = fs; told = refl; fit = h; moving-are = sym b }
    by (inr h) = none-some (sym (e ∙ ap (λ (t : Bool). given t (select moving fs)) h))

-- keys that were gathered, with their amounts, are taken and made
pub gathered-moves : {ws ps bs is os begins : List ℕ} {ins outs : Gathered} {ikeys iamounts okeys oamounts : List ℕ} → PlacesFit ws ps → length begins ≡ 65 → IsGathered ws ps bs is ins ikeys iamounts → IsGathered ws ps bs os outs okeys oamounts → Moves ws ps (take ins.n ikeys) (take ins.n iamounts) (take outs.n okeys) (take outs.n oamounts) begins
gathered-moves {ws} {ps} {bs} fits full i o = record { fits = fits; begins-full = full; ins = keyed i; outs = keyed o }
  where
    keyed : {ats : List ℕ} {r : Gathered} {keys amounts : List ℕ} → IsGathered ws ps bs ats r keys amounts → Keyed ws ps (take r.n keys) (take r.n amounts)
    keyed x = record { few = keys_few x; same = keys_paired x; fit = keys_fit x }

gathered-some : {ws ps bs ats : List ℕ} {r : Gathered} {keys amounts : List ℕ} → r.some ≡ true → IsGathered ws ps bs ats r keys amounts → IsGathered ws ps bs ats (record { some = true; arcs = r.arcs; n = r.n }) keys amounts
gathered-some s x = record { keys_full = x.keys_full; amounts_full = x.amounts_full; same = rw s at x.same; few = x.few; known = x.known }

-- what was taken is what an enabled binding takes
pub taken-known : {ws ps gs is ms begins bs : List ℕ} {r : Gathered} {keys amounts : List ℕ} → IsTaken ws ps gs is ms begins bs r keys amounts → not r.some ≡ false → IsEnabledAt ws ps gs is ms begins bs true × IsGathered ws ps bs is (record { some = true; arcs = r.arcs; n = r.n }) keys amounts
taken-known {r = r} x d = let s = not-false r.some d in (rw s at x.enabled, gathered-some s (x.gathered s))

-- the effect of flows is that of the keys gathered from them
effect_keys : (m : Counts) (ws ps : List ℕ) (fs gs : List Flow) (ik ia ok oa : List ℕ) → select moving fs ≡ key_flows ws ps ik ia → select moving gs ≡ key_flows ws ps ok oa → effect m fs gs ≡ effect m (key_flows ws ps ik ia) (key_flows ws ps ok oa)
effect_keys m ws ps fs gs ik ia ok oa e f = fun_ext (λ p. fun_ext (λ c. rw (← e, ← f, total-moving fs p c, total-moving gs p c)))

module _ {ws ps gs is os ms begins bs : List ℕ} (q : FireableAt ws ps gs is os ms begins bs) where
  -- ── The conjuncts and arcs of the transition stand at their positions ──

  pub fireable-guard : Every (HasConjunct ws (length bs)) gs
  fireable-guard = conjuncts-stand ws q.net.places q.at q.transition q.after q.there (length bs) q.many q.guard_at_lem

  pub fireable-inputs : Every (HasArc ws ps (length bs)) is
  fireable-inputs = inputs-stand ws q.net.places q.at q.transition q.after q.there (length bs) q.many ps q.placed q.inputs_at

  pub fireable-outputs : Every (HasArc ws ps (length bs)) os
  fireable-outputs = outputs-stand ws q.net.places q.at q.transition q.after q.there (length bs) q.many ps q.placed q.outputs_at

  -- ── The flows of the transition ──

  inputs_are : flows_at ws ps bs is ≡ flows house_table (bound q.binding) q.transition.inputs
  inputs_are =
      ap (flows_at ws ps bs) q.inputs_at
      ∙ inputs-told ws bs q.net.places q.at q.transition q.after q.there q.many ps q.placed
      ∙ ap (λ e. flows house_table e q.transition.inputs) q.values

  outputs-are : flows_at ws ps bs os ≡ flows house_table (bound q.binding) q.transition.outputs
  outputs-are =
      ap (flows_at ws ps bs) q.outputs_at
      ∙ outputs-told ws bs q.net.places q.at q.transition q.after q.there q.many ps q.placed
      ∙ ap (λ e. flows house_table e q.transition.outputs) q.values

  proper : Proper q.net (counts_of q.entries)
  proper = marking_counts q.net ms q.entries q.end q.marked

  sees : Sees ws ps ms begins q.entries
  sees = record { next = q.end; marked = rw (← q.placed) q.marked; begun = subst (λ (places : List Place). Begins places q.entries begins) q.placed q.begun }

  -- ── 13 ──

  module _ {r : Bool} (i : IsEnabledAt ws ps gs is ms begins bs r) where
    enabled-is : r ≡ is_enabled house_table q.transition (counts_of q.entries) q.binding
    enabled-is = enabled-told ws bs q.net.places q.at q.transition q.after q.there q.many ps q.placed q.guard_at_lem q.inputs_at q.entries q.end q.marked q.begun q.binding q.values i

    pub fired_13 : (buffer : List ℕ) → not r ≡ true → FiredTo q.net buffer begins (Err NotEnabled) buffer begins (fire house_table q.net (length buffer) q.transition (counts_of q.entries) q.binding)
    unfolding fire occur
    fired_13 buffer d =
        let e : is_enabled house_table q.transition (counts_of q.entries) q.binding ≡ false = sym enabled-is ∙ not-true r d in
        rw e (record { end = refl; begun = refl })

  -- a binding that semantics says is enabled is enabled for the code
  pub enabled_at : is_enabled house_table q.transition (counts_of q.entries) q.binding ≡ true → IsEnabledAt ws ps gs is ms begins bs true
  enabled_at e = subst (IsEnabledAt ws ps gs is ms begins bs) (enabled-is here ∙ e) here
    where
      here : IsEnabledAt ws ps gs is ms begins bs (guard_at ws bs gs && covers_all (counts_of q.entries) (flows_at ws ps bs is))
      here = record {
        enabled = λ places p es next m b.
            let o : read q.entries q.end ≡ read es next = sym q.marked ∙ ap (λ (l : List Place). marking_read l ms) (q.placed ∙ sym p) ∙ m in
            let s : q.entries ≡ es = cc in
            rw s;
      }

  module _ (e : IsEnabledAt ws ps gs is ms begins bs true) where
    enabled : is_enabled house_table q.transition (counts_of q.entries) q.binding ≡ true
    enabled = sym (enabled-is e)

    -- so all that its input arcs take is gathered
    pub enabled-gathered : {ins : Gathered} {ikeys iamounts : List ℕ} → IsGathered ws ps bs is ins ikeys iamounts → IsGathered ws ps bs is (record { some = true; arcs = ins.arcs; n = ins.n }) ikeys iamounts
    enabled-gathered {ins} {ikeys} {iamounts} x = gathered-some (by (either ins.some)) x
      where
        unmoved : ins.some ≡ false → (guard_at ws bs gs ≡ true) ⊎ (guard_at ws bs gs ≡ false) → IsEnabledAt ws ps gs is ms begins bs false
        unmoved f (inl g) = enabled_unmoved ws ps gs is ms begins bs {g = guard_at ws bs gs} refl (ap not g) x (ap not f)
        unmoved f (inr g) = enabled_unguarded ws ps gs is ms begins bs {g = guard_at ws bs gs} refl (ap not g)

        by : (ins.some ≡ true) ⊎ (ins.some ≡ false) → ins.some ≡ true
        by (inl t) = t
        by (inr f) = absurd (not_both _ enabled (sym (enabled-is (unmoved f (either (guard_at ws bs gs))))))

    module _ {arcs n : ℕ} {ikeys iamounts : List ℕ} (i : IsGathered ws ps bs is (record { some = true; arcs = arcs; n = n }) ikeys iamounts) where
      taken : Gathers ws ps (flows house_table (bound q.binding) q.transition.inputs) (take n ikeys) (take n iamounts)
      taken = gathers ws ps (flows house_table (bound q.binding) q.transition.inputs) (take n ikeys) (take n iamounts) (i.same ∙ ap (gathered_by ws ps) inputs_are)

      -- ── 14 ──

      module _ {outs : Gathered} {okeys oamounts : List ℕ} (o : IsGathered ws ps bs os outs okeys oamounts) where
        made-is : given outs.some (key_flows ws ps (take outs.n okeys) (take outs.n oamounts)) ≡ gathered_by ws ps (flows house_table (bound q.binding) q.transition.outputs)
        made-is = o.same ∙ ap (gathered_by ws ps) outputs-are

        every-fits : (fs : List Flow) → every (fits_at ws ps) fs ≡ every (fits q.net) fs
        unfolding every
        every-fits [] = refl
        every-fits (f ∷ fs) = let e : fits_at ws ps f ≡ fits q.net f = rw q.placed in rw (e, every-fits fs)

        pub fired_14 : (buffer : List ℕ) → not outs.some ≡ true → FiredTo q.net buffer begins (Err BadOutput) buffer begins (fire house_table q.net (length buffer) q.transition (counts_of q.entries) q.binding)
        unfolding fire occur
        fired_14 buffer d = rw (enabled, taken.told) (by (flows house_table (bound q.binding) q.transition.outputs) (sym (ap (λ (s : Bool). given s (key_flows ws ps (take outs.n okeys) (take outs.n oamounts))) (not-true outs.some d)) ∙ made-is))
          where
            by : (x : Option (List Flow)) → none ≡ gathered_by ws ps x → FiredTo q.net buffer begins (Err BadOutput) buffer begins (roomed q.net (length buffer) (occur_by q.net (counts_of q.entries) (some taken.flows-are) x))
            by none e = record { end = refl; begun = refl }
            by (some fs) e = unfit (either (every (fits q.net) fs))
              where
                unfit : (every (fits q.net) fs ≡ true) ⊎ (every (fits q.net) fs ≡ false) → FiredTo q.net buffer begins (Err BadOutput) buffer begins (roomed q.net (length buffer) (occur_by q.net (counts_of q.entries) (some taken.flows-are) (some fs)))
                unfit (inl h) = none-some (e ∙ ap (λ (s : Bool). given s (select moving fs)) (every-fits fs ∙ h))
                unfit (inr h) = rw h (record { end = refl; begun = refl })

        -- ── 15, 16, or the new marking ──

        module _ (d : not outs.some ≡ false) where
          made : Gathers ws ps (flows house_table (bound q.binding) q.transition.outputs) (take outs.n okeys) (take outs.n oamounts)
          made = gathers ws ps (flows house_table (bound q.binding) q.transition.outputs) (take outs.n okeys) (take outs.n oamounts) (sym (ap (λ (s : Bool). given s (key_flows ws ps (take outs.n okeys) (take outs.n oamounts))) (not-false outs.some d)) ∙ made-is)

          abbrev ik : List ℕ
          ik = take n ikeys

          abbrev ia : List ℕ
          ia = take n iamounts

          abbrev ok : List ℕ
          ok = take outs.n okeys

          abbrev oa : List ℕ
          oa = take outs.n oamounts

          effect_is : effect (counts_of q.entries) taken.flows-are made.flows-are ≡ after ws ps ik ia ok oa q.entries
          effect_is = effect_keys (counts_of q.entries) ws ps taken.flows-are made.flows-are ik ia ok oa taken.moving-are made.moving-are

          -- where the keys stay within the limit, so does every count
          all_limited : every (within ws ps (after ws ps ik ia ok oa q.entries)) (keys_from 0 (ik ++ ok)) ≡ true → Limited (after ws ps ik ia ok oa q.entries)
          all_limited e = at_named (λ p c. after ws ps ik ia ok oa q.entries p c ≤ most_count) (key_flows ws ps ok oa) named (λ p c z. let l = proper.limited p c in omega arith)
            where
              named : (f : Flow) → Memᴰ f (key_flows ws ps ok oa) → after ws ps ik ia ok oa q.entries f.place f.colour ≤ most_count
              named f j =
                  let k = flow_keyed ws ps ok oa j in
                  let x : Memᴰ k.0 (keys_from 0 (ik ++ ok)) = rw (keys_all (ik ++ ok)) (sort_in (ik ++ ok) (mathlib.Core.List.Memᴰ.append_right ik k.1)) in
                  subst (λ (p : ℕ). after ws ps ik ia ok oa q.entries p f.colour ≤ most_count) (sym k.2) (subst (λ (c : List ℤ). after ws ps ik ia ok oa q.entries (key_place k.0) c ≤ most_count) (sym k.3) (leb-true _ _ (every_at (within ws ps (after ws ps ik ia ok oa q.entries)) e x)))

          within-is : within_counts (counts_of q.entries) taken.flows-are made.flows-are ≡ every (within ws ps (after ws ps ik ia ok oa q.entries)) (keys_from 0 (ik ++ ok))
          within-is = same_test _ _ forth back
            where
              forth : within_counts (counts_of q.entries) taken.flows-are made.flows-are ≡ true → every (within ws ps (after ws ps ik ia ok oa q.entries)) (keys_from 0 (ik ++ ok)) ≡ true
              forth w =
                  let l : Limited (after ws ps ik ia ok oa q.entries) = subst Limited effect_is (within_all (counts_of q.entries) taken.flows-are made.flows-are proper.limited w) in
                  every_of (within ws ps (after ws ps ik ia ok oa q.entries)) (keys_from 0 (ik ++ ok)) (λ k j. le-leb _ _ (l (key_place k) (key_colour ws ps k)))

              back : every (within ws ps (after ws ps ik ia ok oa q.entries)) (keys_from 0 (ik ++ ok)) ≡ true → within_counts (counts_of q.entries) taken.flows-are made.flows-are ≡ true
              back e = all_within (counts_of q.entries) taken.flows-are made.flows-are (subst Limited (sym effect_is) (all_limited e))

          occurs : occur house_table q.net q.transition (counts_of q.entries) q.binding ≡ cond (every (within ws ps (after ws ps ik ia ok oa q.entries)) (keys_from 0 (ik ++ ok))) (moved (after ws ps ik ia ok oa q.entries)) (stopped over_count)
          unfolding occur
          occurs = rw (enabled, taken.told, made.told, ← every-fits made.flows-are, made.fit) (ap (λ (b : Bool). cond b (moved (effect (counts_of q.entries) taken.flows-are made.flows-are)) (stopped over_count)) within-is ∙ ap (λ (m : Counts). cond (every (within ws ps (after ws ps ik ia ok oa q.entries)) (keys_from 0 (ik ++ ok))) (moved m) (stopped over_count)) effect_is)

          new-proper : every (within ws ps (after ws ps ik ia ok oa q.entries)) (keys_from 0 (ik ++ ok)) ≡ true → Proper q.net (after ws ps ik ia ok oa q.entries)
          new-proper e =
              let moves = occurs ∙ ap (λ (b : Bool). cond b (moved (after ws ps ik ia ok oa q.entries)) (stopped over_count)) e in
              let (s, same) = occurs-step house_table q.net q.transition (counts_of q.entries) q.binding proper.limited (after ws ps ik ia ok oa q.entries) moves in
              subst (Proper q.net) (sym same) (step-proper house_table q.net q.transition (counts_of q.entries) q.binding proper (λ a j. Every-at (λ (a : Arc). a.place < length q.net.places) q.outputs j) s)

          -- what it takes is covered
          taken-covered : (p : ℕ) (c : List ℤ) → total (key_flows ws ps ik ia) p c ≤ counts_of q.entries p c
          unfolding is_enabled
          taken-covered p c =
              let t : covers (counts_of q.entries) taken.flows-are ≡ true = rw taken.told at (and_right (every (holds house_table (bound q.binding)) q.transition.guard) _ enabled) in
              rw (← taken.moving-are, total-moving taken.flows-are p c) (covers_all_lem (counts_of q.entries) taken.flows-are t p c)

          pub fired_stepping : Moves ws ps ik ia ok oa begins → Stepping ws ps ik ia ok oa ms begins
          fired_stepping m = record { moves = m; net = q.net; entries = q.entries; placed = q.placed; sees = sees; covered = taken-covered; proper = new-proper }

          pub fired-step : Moves ws ps ik ia ok oa begins → {buffer : List ℕ} {r : Result ℕ Refusal} {rest begins' : List ℕ} → IsStep ws ps ik ia ok oa ms begins buffer r rest begins' → FiredTo q.net buffer begins r rest begins' (fire house_table q.net (length buffer) q.transition (counts_of q.entries) q.binding)
          unfolding fire fired_stepping
          fired-step m {buffer} {r} {rest} {begins'} x = subst (λ (f : Firing). FiredTo q.net buffer begins r rest begins' (roomed q.net (length buffer) f)) (sym occurs) (x.fired (fired_stepping m))
