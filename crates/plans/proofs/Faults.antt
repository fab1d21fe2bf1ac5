-- The rules of faults: where a plan is at fault, from what its elements bind. Each rule is one arm of the code; in the loops what is still
-- ahead is what was ahead at first.
use mathlib.Core.Path.{◌≡◌, refl, sym, ap, ◌∙◌, fun_ext}
use Prim.Native.Nat.{ℕ, ◌+◌, ◌-◌, ◌*◌, ◌/◌, ◌≤◌, ◌<◌}
use mathlib.Core.Bool.{Bool, true, false, cond, ◌||◌}
use mathlib.Core.List.{List, [], ◌∷◌, ◌++◌}
use mathlib.Core.Option.{Option, none, some}
use Rattle.std.specs.Prelude as prelude
use Rattle.std.specs.Prelude.{Some, None, Result, Ok, Err}
use Rattle.std.specs.Option.{option_or}
use native.Mathlib.Numerals.{add-one}
use native.Mathlib.Omega.{arith}
use borrow.Author.Rules.{rules}
use lib.ListN.{length, get_or, drop, take, set, drop_of_length-le}
use lib.Seq.{drop-cons, get_or-set_same, get_or-set_other}
use Rattle.semantics.specs.Plan.{member, every_below, fit_or, first_of as first_fault}
use Rattle.semantics.specs.Net as net
use Rattle.semantics.specs.Reading.{read}
use Rattle.semantics.specs.ReadNet.{read_element, sort_of}
use mathlib.Core.Logic.{◌⊎◌, inl, inr}
use borrow.Author.Tests.{ltb-true, ltb-false}
use lib.Dec.{ltb}
use Rattle.semantics.proofs.Tests.{either, not_both, false_true}
use Rattle.semantics.proofs.Partial.{every_below_at}
use Rattle.net.proofs.Tables.{part_same}
use Rattle.semantics.proofs.Members.{past_elem, elem_number}
use Rattle.semantics.specs.declared.refusal.Refusal.{Refusal}
use Rattle.semantics.specs.Answer.{option_of, refusing}
use Rattle.expression.specs.Skip.{forget}
use Rattle.kinds.specs.Taken.{fits_kind, taken, IsTaken}
use Rattle.net.specs.Skim.{Outline, skim_transitions}
use Rattle.semantics.specs.Word.{bits}
use Rattle.net.proofs.Loops.{Collected, collected_start, collected_goes, collected_stops, collected_end, take-set}
use Rattle.net.specs.declared.index.Parts.{Parts}
use Rattle.net.specs.Index.{outlined, PartsRead}
use Rattle.elements.specs.declared.element.Sort.{Sort}
use Rattle.elements.specs.declared.element.Sort.TheVariants.{Match, Solve, Range}
use Rattle.plans.specs.declared.plan.Reviewed.{Reviewed}
use Rattle.plans.specs.Fitness.{binds_at, element_or, fault_from, fault_in, transition_fault, fault_among}
use Rattle.elements.specs.Binds.{unbound_of, match_at, solve_at}
use Rattle.plans.specs.Fitness.{plan_parts}
use Rattle.plans.specs.Plan.{end_of, fault_of, OwnParts, IsReviewed, IsBase, AreKept, AreReviewed}
use Rattle.elements.specs.Bound.{sorted, marked, non_empty, IsBound}
use Rattle.elements.proofs.Binding.{bound-none}

-- ── Variables that are not bound ──

below_unbound : (v : ℕ) (p : ℕ → Bool) (n : ℕ) → n < v → p n ≡ false → every_below v p ≡ false
below_unbound v p n h e = by (either (every_below v p))
  where
    by : (every_below v p ≡ true) ⊎ (every_below v p ≡ false) → every_below v p ≡ false
    by (inl q) = absurd (not_both (p n) (every_below_at v p q n h) e)
    by (inr q) = q

pub bounded_turn : (p : ℕ → Bool) (n : ℕ) → every_below n p ≡ true → p n ≡ true → every_below (n + 1) p ≡ true
unfolding every_below
bounded_turn p n a e = rw (add-one n, e, a)

pub bounded-stop : (v : ℕ) (p : ℕ → Bool) (n at : ℕ) → n < v → p n ≡ false → some at ≡ cond (every_below v p) none (some at)
bounded-stop v p n at h e = rw (below_unbound v p n h e)

-- ── What an element binds ──

module _ (ws widths : List ℕ) (v : ℕ) (inputs guard : List ℕ) (marks : List Bool) {s : Sort} where
  pub match_past : {k : ℕ} → s ≡ Match k → length inputs ≤ k → IsBound marks (binds_at ws widths (plan_parts v inputs guard) (marked marks) (sorted s)) false marks
  unfolding binds_at
  match_past {k} e h = rw (e, past_elem inputs k h) (bound-none marks)

  pub match-there : {k : ℕ} {r : Bool} {marks' : List Bool} → s ≡ Match k → k < length inputs → IsBound marks (match_at ws widths v (marked marks) (get_or inputs k 0)) r marks' → IsBound marks (binds_at ws widths (plan_parts v inputs guard) (marked marks) (sorted s)) r marks'
  unfolding binds_at
  match-there {k} e h x = rw (e, elem_number inputs k 0 h) x

  pub solve_past : {k : ℕ} → s ≡ Solve k → length guard ≤ k → IsBound marks (binds_at ws widths (plan_parts v inputs guard) (marked marks) (sorted s)) false marks
  unfolding binds_at
  solve_past {k} e h = rw (e, past_elem guard k h) (bound-none marks)

  pub solve-there : {k : ℕ} {r : Bool} {marks' : List Bool} → s ≡ Solve k → k < length guard → IsBound marks (solve_at ws v (marked marks) (get_or guard k 0)) r marks' → IsBound marks (binds_at ws widths (plan_parts v inputs guard) (marked marks) (sorted s)) r marks'
  unfolding binds_at
  solve-there {k} e h x = rw (e, elem_number guard k 0 h) x

  pub range-there : {n : ℕ} {r : Bool} {marks' : List Bool} → s ≡ Range n → IsBound marks (unbound_of v (marked marks) n) r marks' → IsBound marks (binds_at ws widths (plan_parts v inputs guard) (marked marks) (sorted s)) r marks'
  unfolding binds_at
  range-there e x = rw e x

-- ── Elements, one after the other ──

-- no element so far is at fault
pub record Planned (ws widths : List ℕ) (o : Outline) (ps : List ℕ) (at : ℕ) (marks : List Bool) (i : ℕ) : Type 0 where
  pub inside : i ≤ length ps
  pub same : fault_from ws widths o at (λ k. false) ps ≡ fault_from ws widths o at (marked marks) (drop i ps)

module _ (ws widths : List ℕ) (o : Outline) (ps : List ℕ) (at : ℕ) {marks : List Bool} {i : ℕ} (a : Planned ws widths o ps at marks i) where
  plan-next : i < length ps → fault_from ws widths o at (λ k. false) ps ≡ fault_from ws widths o at (marked marks) (get_or ps i 0 ∷ drop (i + 1) ps)
  plan-next h = a.same ∙ ap (fault_from ws widths o at (marked marks)) (drop-cons ps i 0 h ∙ ap (λ (k : ℕ). get_or ps i 0 ∷ drop k ps) (sym (add-one i)))

  -- the element at the next position
  element_at : {t : Result ℕ Refusal} {w : ℕ} → IsTaken ws (get_or ps i 0) 0xA t → t ≡ Ok w → read_element ws (get_or ps i 0) ≡ read (record { position = get_or ps i 0; sort = sort_of (bits 8 9 w) (bits 0 7 w) }) (get_or ps i 0 + 1)
  unfolding read_element fits_kind
  element_at x e = rw (sym x.same ∙ ap (taken (get_or ps i 0)) e)

  element-none : {t : Result ℕ Refusal} {e : Refusal} → IsTaken ws (get_or ps i 0) 0xA t → t ≡ Err e → read_element ws (get_or ps i 0) ≡ refusing e
  unfolding read_element fits_kind
  element-none x e = rw (sym x.same ∙ ap (taken (get_or ps i 0)) e)

  pub plan-unread : i < length ps → {t : Result ℕ Refusal} {e : Refusal} → IsTaken ws (get_or ps i 0) 0xA t → t ≡ Err e → some (get_or ps i 0) ≡ fault_from ws widths o at (λ k. false) ps
  unfolding fault_from
  plan-unread h x e = sym (plan-next h ∙ rw (element-none x e))

  module _ (h : i < length ps) {t : Result ℕ Refusal} {w : ℕ} (x : IsTaken ws (get_or ps i 0) 0xA t) (e : t ≡ Ok w) (s : Sort) (y : sorted s ≡ sort_of (bits 8 9 w) (bits 0 7 w)) {r : Bool} {marks' : List Bool} (z : IsBound marks (binds_at ws widths o (marked marks) (sorted s)) r marks') where
    pub plan_unfit : r ≡ false → some (get_or ps i 0) ≡ fault_from ws widths o at (λ k. false) ps
    unfolding fault_from
    plan_unfit f = sym (plan-next h ∙ rw (element_at x e, ← y) (by (binds_at ws widths o (marked marks) (sorted s)) (sym z.some ∙ f)))
      where
        by : (ns : List ℕ) → non_empty ns ≡ false → fit_or ns (get_or ps i 0) (λ ns. fault_from ws widths o at (λ k. member ns k || marked marks k) (drop (i + 1) ps)) ≡ some (get_or ps i 0)
        by [] q = refl
        by (n ∷ ns) q = false_true (sym q)

    pub plan_turn : r ≡ true → Planned ws widths o ps at marks' (i + 1)
    unfolding fault_from
    plan_turn f = record { inside = omega arith; same = plan-next h ∙ rw (element_at x e, ← y) (by (binds_at ws widths o (marked marks) (sorted s)) (sym z.some ∙ f) z.marks) }
      where
        by : (ns : List ℕ) → non_empty ns ≡ true → ((k : ℕ) → marked marks' k ≡ (member ns k || marked marks k)) → fit_or ns (get_or ps i 0) (λ ns. fault_from ws widths o at (λ k. member ns k || marked marks k) (drop (i + 1) ps)) ≡ fault_from ws widths o at (marked marks') (drop (i + 1) ps)
        by [] q g = false_true q
        by (n ∷ ns) q g = ap (λ (p : ℕ → Bool). fault_from ws widths o at p (drop (i + 1) ps)) (fun_ext (λ k. sym (g k)))

  pub plan-end : {r : Option ℕ} → length ps ≤ i → r ≡ cond (every_below o.variables (marked marks)) none (some at) → r ≡ fault_from ws widths o at (λ k. false) ps
  unfolding fault_from
  plan-end h x = x ∙ sym (a.same ∙ ap (fault_from ws widths o at (marked marks)) (drop_of_length-le ps {i = i} h))

-- ── The plan of a transition ──

-- the parts that a plan names are all that its faults are told from
parts-fault : (ws widths : List ℕ) (o : Outline) (at : ℕ) (is_bound : ℕ → Bool) (ps : List ℕ) → fault_from ws widths (plan_parts o.variables o.inputs o.guard) at is_bound ps ≡ fault_from ws widths o at is_bound ps
unfolding fault_from binds_at
parts-fault ws widths o at is_bound [] = refl
parts-fault ws widths o at is_bound (p ∷ ps) =
    ap (element_or (read_element ws p) p)
    (fun_ext (λ s.
    ap (λ (ns : List ℕ). fit_or ns p (λ ns. fault_from ws widths (plan_parts o.variables o.inputs o.guard) at (λ k. member ns k || is_bound k) ps)) (same s)
    ∙ ap (fit_or (binds_at ws widths o is_bound s) p) (fun_ext (λ ns. parts-fault ws widths o at (λ k. member ns k || is_bound k) ps))))
  where
    same : (s : net.Sort) → binds_at ws widths (plan_parts o.variables o.inputs o.guard) is_bound s ≡ binds_at ws widths o is_bound s
    same (net.match k) = refl
    same (net.solve k) = refl
    same (net.range n) = refl

-- a transition whose parts stand in a table
module _ (ws widths : List ℕ) (at : ℕ) {table : List ℕ} {base : ℕ} {after : List ℕ} where
  -- the parts of a table as the code lends them, by numbers that are told as differences
  module _ (t : Parts) (end : ℕ) (x : PartsRead ws widths at table base (Ok (t, end)) after) where
    abbrev own : List ℕ
    own = take 32 (drop base after)

    pub plan-read : (f : prelude.Option ℕ) (m g p : ℕ) → m ≡ 32 → g ≡ t.conjuncts → p ≡ t.elements → option_of f ≡ fault_from ws widths (plan_parts t.variables (take t.inputs (take m (drop base after))) (take g (drop 16 (take m (drop base after))))) at (λ k. false) (take p (drop 24 (take m (drop base after)))) → IsReviewed ws widths at table base (Ok (record { end = end; fault = f })) after
    plan-read f m g p a b c y =
        record {
          ends = ap forget x.parts.same;
          faults = (rw (a, b, c) at y) ∙ parts-fault ws widths (outlined t own) at (λ k. false) (take t.elements (drop 24 own)) ∙ ap (fault_in ws widths at) x.parts.same;
          parts = record { counted = Ok (t, end); are = x.parts };
          before = x.before;
        }

-- ── Transitions, one after the other ──

-- the first of two faults
earlier : (a b : prelude.Option ℕ) → option_of (option_or a b) ≡ first_fault (option_of a) (option_of b)
earlier (Some p) b = refl
earlier None b = refl

-- one more transition
among_last : (ws widths ats : List ℕ) (at : ℕ) → fault_among ws widths (ats ++ (at ∷ [])) ≡ first_fault (fault_among ws widths ats) (transition_fault ws widths at)
unfolding fault_among
among_last ws widths [] at = by (transition_fault ws widths at)
  where
    by : (o : Option ℕ) → first_fault o none ≡ o
    by none = refl
    by (some p) = refl
among_last ws widths (a ∷ ats) at = ap (first_fault (transition_fault ws widths a)) (among_last ws widths ats at) ∙ by (transition_fault ws widths a)
  where
    by : (o : Option ℕ) → first_fault o (first_fault (fault_among ws widths ats) (transition_fault ws widths at)) ≡ first_fault (first_fault o (fault_among ws widths ats)) (transition_fault ws widths at)
    by none = refl
    by (some p) = refl

-- ── Where parts are kept ──

pub base_others : (i first last : ℕ) → i < first → IsBase i first last last
base_others i first last h = record { inside = omega arith; own = λ k e l. absurd (omega arith); behind = λ k e l. l }

pub base_past : (i first last : ℕ) → last / 32 < i - first → IsBase i first last last
base_past i first last h = record { inside = omega arith; own = λ k e l. absurd (omega arith); behind = λ k e l. l }

pub base_own : (i first last : ℕ) → first ≤ i → i - first ≤ last / 32 → IsBase i first last ((i - first) * 32)
base_own i first last g h = record { inside = omega arith; own = λ k e l. omega arith; behind = λ k e l. omega arith }

-- one transition more
module _ {ws widths : List ℕ} {i first next : ℕ} {begins table : List ℕ} (K : AreKept ws widths i begins first table) (h : i < length begins) where
  kept_turn : {last base : ℕ} {t : Result Reviewed Refusal} {after : List ℕ} → IsBase i first last base → last + 32 ≡ length table → length after ≡ length table → IsReviewed ws widths next table base t after → AreKept ws widths (i + 1) (set begins i next) first after
  kept_turn {last} {base} {t} {after} b l m x = record { each = λ k g r. by k g r (either (ltb (first + k) i)) }
    where
      by : (k : ℕ) → first + k < i + 1 → k * 32 + 64 ≤ length after → (ltb (first + k) i ≡ true) ⊎ (ltb (first + k) i ≡ false) → OwnParts ws widths (get_or (set begins i next) (first + k) 0) (take 32 (drop (k * 32) after))
      by k g r (inl u) =
          let e = ltb-true (first + k) i u in
          rw (get_or-set_other begins i (first + k) next 0 (omega arith), part_same x.before (k * 32) 32 (b.behind k e (omega arith))) (K.each k e (omega arith))
      by k g r (inr u) =
          let e : first + k ≡ i = omega (arith, ltb-false (first + k) i u) in
          let o = b.own k e (omega arith) in
          rw (e, get_or-set_same begins i next 0 h, ← o) x.parts

-- the i first of n transitions were read, f is the first fault of their plans, and their parts are kept
pub record Reviewing (ws widths : List ℕ) (n at i next : ℕ) (begins : List ℕ) (f : prelude.Option ℕ) (first : ℕ) (table : List ℕ) : Type 0 where
  pub collected : Collected (skim_transitions ws widths) n at i next begins
  pub faults : option_of f ≡ fault_among ws widths (take i begins)
  pub kept : AreKept ws widths i begins first table

pub reviewing_start : (ws widths : List ℕ) (n at : ℕ) (begins : List ℕ) (first : ℕ) (table : List ℕ) → Reviewing ws widths n at 0 at begins None first table
unfolding fault_among
reviewing_start ws widths n at begins first table = record { collected = collected_start (skim_transitions ws widths) n at begins; faults = refl; kept = record { each = λ k h. absurd (omega arith) } }

module _ {ws widths : List ℕ} {n at i next : ℕ} {begins : List ℕ} {f : prelude.Option ℕ} {first : ℕ} {table : List ℕ} (a : Reviewing ws widths n at i next begins f first table) where
  pub reviewing_end : n ≤ i → AreReviewed ws widths n at begins first table (Ok (record { end = next; fault = f }))
  reviewing_end h =
      let g = a.collected.gathered.inside in
      let e : i ≡ n = omega arith in
      record {
        same = collected_end a.collected h;
        faults = λ t d. let q : f ≡ t.fault = cc in rw (e, q) at a.faults;
        kept = λ t d. rw e at a.kept;
      }

  module _ (h : i < n) {base : ℕ} {r : Result Reviewed Refusal} {after : List ℕ} (x : IsReviewed ws widths next table base r after) where
    pub reviewing_goes : {last : ℕ} {t : Reviewed} → n ≤ length begins → IsBase i first last base → last + 32 ≡ length table → length after ≡ length table → r ≡ Ok t → Reviewing ws widths n at (i + 1) t.end (set begins i next) (option_or f t.fault) first after
    reviewing_goes {last} {t} l b u m d =
        let q : option_of t.fault ≡ transition_fault ws widths next = sym (ap fault_of d) ∙ x.faults in
        record {
          collected = collected_goes a.collected h x.ends l (ap end_of d);
          faults = earlier f t.fault ∙ rw (a.faults, q) (sym (among_last ws widths (take i begins) next)) ∙ sym (ap (fault_among ws widths) (take-set begins i next (omega arith)));
          kept = kept_turn a.kept (omega arith) b u m x;
        }

    pub reviewing_stops : {e : Refusal} (begins' : List ℕ) → r ≡ Err e → AreReviewed ws widths n at begins' first after (Err e)
    reviewing_stops {e} begins' d = record { same = collected_stops a.collected h x.ends (ap end_of d); faults = λ t z. false_true (cc); kept = λ t z. false_true (cc) }

pub ruleset faults = (rules, match_past, match-there, solve_past, solve-there, range-there, plan-unread, plan_unfit, plan_turn, plan-end, base_others, base_past, base_own, reviewing_end, reviewing_stops)
