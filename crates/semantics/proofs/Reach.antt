-- T6, reach: a run of k accepted picks can end with the marking `last`, all done and none refused, exactly when k steps lead there from the
-- first marking, each within budget, menu and room. It answers demand 3 on runs, for the whole list of picks at once.
-- The idea: a pick that fires is a step (its binding stands in the menu), and a step is a pick (its binding has an index in the menu);
-- counts and words of markings determine each other, so the words at the end are those of the last counts.
-- It holds for every k, and so for every k with 4k below 2^63.
use mathlib.Core.Path.{◌≡◌, refl, sym, ap, ◌∙◌, subst}
use mathlib.Core.Logic.{◌⊎◌, inl, inr, ◌↔◌}
use mathlib.Core.Bool.{Bool, true, false, not, ◌&&◌}
use mathlib.Core.List.Memᴰ
use mathlib.Core.List.{List, [], ◌∷◌, ◌++◌, Memᴰ}
use mathlib.Core.Option.{Option, none, some}
use Prim.Native.Nat.{ℕ, zero, suc, ◌+◌, ◌*◌, ◌-◌, ◌^◌, ◌≤◌, ◌<◌}
use native.Mathlib.Omega.{arith}
use native.Mathlib.Nat.{zero-add, add-zero}
use borrow.Author.Tests.{leb-true, le-leb, lt-ltb, eq-eqb, lt-leb}
use lib.Dec.{leb, eqb}
use lib.IntN.{ℤ}
use lib.ListN.{length, get_elem?, take, replicate}
use lib.Seq.{take_at}
use Rattle.semantics.specs.Refusal.{most_words, most_bindings, over_room, bad_marking, no_transition, bad_pick}
use Rattle.semantics.specs.Lists.{Every}
use Rattle.semantics.specs.Word.{kind, payload, only}
use Rattle.semantics.specs.Expression.{house_table}
use Rattle.semantics.specs.Reading.{read}
use Rattle.semantics.specs.Net.{Place, Arc, Transition, Net, ranges_at}
use Rattle.semantics.specs.Plan.{accept_net}
use Rattle.semantics.specs.Marking.{Entry, Counts, Proper, read_marking, counts_of, marking_words, is_pick, pick_transition, pick_index, first_that, first_unknown, first_malformed}
use Rattle.semantics.specs.Enabling.{Firing, moved, stopped, occur}
use Rattle.semantics.specs.Tries.{all_tries}
use Rattle.semantics.specs.Run.{menu, Offer, offered, withheld, offer, has_room, roomed, fire, Limits, fire_at, pick_from, pick_of, pick, End, plain_run}
use Rattle.semantics.specs.Calls.{RunEnd, Start, marking_in, start, ran_to, limits, run_call, zeroed}
use Rattle.semantics.specs.Reach.{StepWithin, OccurrenceSequence, stay, occurs, Ends}
use Rattle.semantics.proofs.Tests.{either, and_left, and_right, and_both, cond_true, cond_false, Every-at}
use Rattle.semantics.proofs.Members.{at_length, at_member_lem, member_at}
use Rattle.semantics.proofs.Accepted.{Valued, SoundPlace, SoundArc, SoundTransition, SoundNet, accepted_sound}
use Rattle.semantics.proofs.Step.{step-occurs, occurs-step}
use Rattle.semantics.proofs.Menu.{menu_members}
use Rattle.semantics.proofs.Offer.{Made, offer-made, made-offer}
use Rattle.semantics.proofs.Spans.{refused-read, Narrow}
use Rattle.semantics.proofs.Markings.{marking-words, marking_proper, marking_short, words_marking, step-proper}
use Rattle.semantics.proofs.Run.{Numbered, pick-numbered}

-- ── Accepted nets ──

narrow : (net : Net) → SoundNet net → (p : ℕ) → Narrow (ranges_at net.places p)
narrow net sound p = by net.places sound.places p
  where
    by : (ps : List Place) → Every SoundPlace ps → (p : ℕ) → Narrow (ranges_at ps p)
    by [] s p r k = absurd (Memᴰ.not-nil k)
    by (q ∷ ps) s zero r k = let v = Every-at Valued s.0.valued k in (v.low, v.high)
    by (q ∷ ps) s (suc p) r k = by ps s.1 p r k

outputs-there : (net : Net) → SoundNet net → (t : Transition) → Memᴰ t net.transitions → (a : Arc) → Memᴰ a t.outputs → a.place < length net.places
outputs-there net sound t k a j = (Every-at (SoundArc net.places (length t.variables)) (Every-at (SoundTransition net.places) sound.transitions k).outputs j).there

-- ── A pick that fires, and a step ──

stopped-moved : {n : ℕ} {m : Counts} {X : Type 0} → stopped n ≡ moved m → X
stopped-moved e = let z : ◌≡◌ {A = ℕ} 0 1 = cc in absurd (omega arith)

-- the PICK word of a transition and an index
pick_word : ℕ → ℕ → ℕ
pick_word t i = 0xD * 2 ^ 28 + t * 2 ^ 14 + i

module _ (table : List ℕ) (net : Net) (l : Limits) (sound : SoundNet net) where
  room_moved : (x : Firing) (m' : Counts) → roomed net l.room x ≡ moved m' → (x ≡ moved m') × (has_room net l.room m' ≡ true)
  room_moved (stopped n) m' e = stopped-moved e
  room_moved (moved m₁) m' e = by (either (has_room net l.room m₁))
    where
      by : (has_room net l.room m₁ ≡ true) ⊎ (has_room net l.room m₁ ≡ false) → (moved m₁ ≡ moved m') × (has_room net l.room m' ≡ true)
      by (inl h) =
          let f : moved m₁ ≡ moved m' = sym (cond_true (has_room net l.room m₁) (moved m₁) (stopped over_room) h) ∙ e in
          let g : m₁ ≡ m' = cc in
          (f, subst (λ (k : Counts). has_room net l.room k ≡ true) g h)
      by (inr h) = stopped-moved (sym (cond_false (has_room net l.room m₁) (moved m₁) (stopped over_room) h) ∙ e)

  pick_leg : (m m' : Counts) (w : ℕ) → Proper net m → pick table net l m w ≡ moved m' → StepWithin table net l m m'
  unfolding pick fire
  pick_leg m m' w proper e = by_transition (get_elem? net.transitions (pick_transition w)) refl e
    where
      leg : (t : Transition) → get_elem? net.transitions (pick_transition w) ≡ some t → Made table net l.budget l.menu_room t m (menu table t m) (all_tries table net t m) → (b : List ℤ) → get_elem? (menu table t m) (pick_index w) ≡ some b → roomed net l.room (occur table net t m b) ≡ moved m' → StepWithin table net l m m'
      leg t p d b q h =
          let o = (menu_members table t m b).0 (at_member_lem (menu table t m) (pick_index w) b q) in
          let r = room_moved (occur table net t m b) m' h in
          let s = occurs-step table net t m b proper.limited m' r.0 in
          record {
            number = pick_transition w;
            transition = t;
            named = p;
            binding = b;
            inside = o.0;
            step = s.0;
            leads = s.1;
            covered = leb-true _ _ d.paid;
            few = leb-true (length (menu table t m)) most_bindings (and_left (leb (length (menu table t m)) most_bindings) (leb (length (menu table t m) * length t.variables) l.menu_room) d.fits);
            fits = leb-true (length (menu table t m) * length t.variables) l.menu_room (and_right (leb (length (menu table t m)) most_bindings) (leb (length (menu table t m) * length t.variables) l.menu_room) d.fits);
            room = leb-true (length (marking_words net m')) l.room (and_left (leb (length (marking_words net m')) l.room) (leb (length (marking_words net m')) most_words) r.1);
            short = leb-true (length (marking_words net m')) most_words (and_right (leb (length (marking_words net m')) l.room) (leb (length (marking_words net m')) most_words) r.1);
          }

      by_binding : (t : Transition) → get_elem? net.transitions (pick_transition w) ≡ some t → Made table net l.budget l.menu_room t m (menu table t m) (all_tries table net t m) → (o : Option (List ℤ)) → get_elem? (menu table t m) (pick_index w) ≡ o → fire_at table net l t m o ≡ moved m' → StepWithin table net l m m'
      by_binding t p d none q h = stopped-moved h
      by_binding t p d (some b) q h = leg t p d b q h

      by_offer : (t : Transition) → get_elem? net.transitions (pick_transition w) ≡ some t → (o : Offer) → offer table net l.budget l.menu_room t m ≡ o → pick_from table net l t m (pick_index w) o ≡ moved m' → StepWithin table net l m m'
      by_offer t p (withheld n) q h = stopped-moved h
      by_offer t p (offered bs v) q h =
          let d = offer-made table net l.budget l.menu_room t m bs v q in
          by_binding t p (rw (← d.counted, ← d.whole) d) (get_elem? (menu table t m) (pick_index w)) refl (rw d.whole at h)

      by_transition : (o : Option Transition) → get_elem? net.transitions (pick_transition w) ≡ o → pick_of table net l m (pick_index w) o ≡ moved m' → StepWithin table net l m m'
      by_transition none p h = stopped-moved h
      by_transition (some t) p h = by_offer t p (offer table net l.budget l.menu_room t m) refl h

  -- what a step's pick is: a well-formed word of a transition that there is, which leads where the step leads
  pub record Picks (m m' : Counts) (w : ℕ) : Type 0 where
    pub well_formed : is_pick w ≡ true
    pub there : pick_transition w < length net.transitions
    pub leads : pick table net l m w ≡ moved m'

  pick-fields : (t i : ℕ) → t < 64 → i < 16384 → (is_pick (pick_word t i) ≡ true) × ((pick_transition (pick_word t i) ≡ t) × (pick_index (pick_word t i) ≡ i))
  unfolding pick_word
  pick-fields t i h k =
      let a : kind (0xD * 2 ^ 28 + t * 2 ^ 14 + i) ≡ 0xD = omega arith in
      let b : payload (0xD * 2 ^ 28 + t * 2 ^ 14 + i) < 2 ^ 22 = omega arith in (
        and_both (eqb (kind (0xD * 2 ^ 28 + t * 2 ^ 14 + i)) 0xD) (only 22 (payload (0xD * 2 ^ 28 + t * 2 ^ 14 + i))) (eq-eqb _ _ a) (lt-ltb _ _ b),
        (omega arith, omega arith),
      )

  leg_pick : (m m' : Counts) → StepWithin table net l m m' → (w : ℕ) × Picks m m' w
  unfolding pick fire
  leg_pick m m' g = (pick_word g.number i.0, record { well_formed = f.0; there = rw f.1.0 small; leads = fired })
    where
      i : (i : ℕ) × (get_elem? (menu table g.transition m) i ≡ some g.binding)
      i = member_at ((menu_members table g.transition m g.binding).1 (g.inside, g.step.enabled))

      small : g.number < length net.transitions
      small = at_length net.transitions g.number g.transition g.named

      f : (is_pick (pick_word g.number i.0) ≡ true) × ((pick_transition (pick_word g.number i.0) ≡ g.number) × (pick_index (pick_word g.number i.0) ≡ i.0))
      f =
          let a = sound.few-transitions in
          let b = at_length (menu table g.transition m) i.0 g.binding i.1 in
          let c = g.few in
          let d = small in
          pick-fields g.number i.0 (omega arith) (omega arith)

      made : offer table net l.budget l.menu_room g.transition m ≡ offered (menu table g.transition m) (all_tries table net g.transition m)
      made =
          made-offer table net l.budget l.menu_room g.transition m
          (le-leb _ _ g.covered)
          (and_both (leb (length (menu table g.transition m)) most_bindings) (leb (length (menu table g.transition m) * length g.transition.variables) l.menu_room) (le-leb _ _ g.few) (le-leb _ _ g.fits))

      arrives : fire table net l.room g.transition m g.binding ≡ moved m'
      arrives =
          ap (roomed net l.room) (step-occurs table net g.transition m g.binding g.step ∙ ap moved (sym g.leads))
          ∙ cond_true (has_room net l.room m') (moved m') (stopped over_room) (and_both (leb (length (marking_words net m')) l.room) (leb (length (marking_words net m')) most_words) (le-leb _ _ g.room) (le-leb _ _ g.short))

      fired : pick table net l m (pick_word g.number i.0) ≡ moved m'
      fired = rw (f.1.0, f.1.1, g.named, made, i.1) arrives

  leg_proper : (m m' : Counts) → Proper net m → StepWithin table net l m m' → Proper net m'
  leg_proper m m' proper g =
      subst (Proper net) (sym g.leads) (step-proper table net g.transition m g.binding proper (outputs-there net sound g.transition (at_member_lem net.transitions g.number g.transition g.named)) g.step)

  -- What a pick that fires leaves: the words of the new counts are an accepted marking, and it has room.
  pub record Marks (m' : Counts) : Type 0 where
    pub entries : List Entry
    pub marked : read_marking net (marking_words net m') ≡ read entries (length (marking_words net m'))
    pub counted : counts_of entries ≡ m'
    pub roomy : length (marking_words net m') ≤ l.room

  pub pick-marks : (m m' : Counts) (w : ℕ) → Proper net m → pick table net l m w ≡ moved m' → Marks m'
  pick-marks m m' w proper e =
      let g = pick_leg m m' w proper e in
      let x = words_marking net sound.few-places (narrow net sound) m' (leg_proper m m' proper g) g.short in
      record { entries = x.0; marked = x.1; counted = x.2; roomy = g.room }

  -- ── Lists of picks, and chains of steps ──

  -- a run that no pick stopped is a chain of as many steps
  record Ran (m : Counts) (done : ℕ) (picks : List ℕ) : Type 0 where
    chain : OccurrenceSequence table net l (length picks) m (plain_run table net l m done picks).counts
    proper : Proper net (plain_run table net l m done picks).counts

  run_chain : (picks : List ℕ) (m : Counts) (done : ℕ) → Proper net m → (plain_run table net l m done picks).refusal ≡ 0 → Ran m done picks
  unfolding plain_run
  run_chain [] m done p e = record { chain = stay; proper = p }
  run_chain (w ∷ ws) m done p e = by (pick table net l m w) refl (pick-numbered table net l m w) (λ m'. run_chain ws m' (done + 1))
    where
      by : (x : Firing) → pick table net l m w ≡ x → Numbered (pick table net l m w) → ((m' : Counts) → Proper net m' → (plain_run table net l m' (done + 1) ws).refusal ≡ 0 → Ran m' (done + 1) ws) → Ran m done (w ∷ ws)
      by (moved m') q h f =
          let g = pick_leg m m' w p q in
          let r = f m' (leg_proper m m' p g) (rw q at e) in
          record { chain = rw q (occurs g r.chain); proper = rw q r.proper }
      by (stopped n) q h f =
          let z : n ≡ 0 = rw q at e in
          let o : 1 ≤ n = rw q at h in
          absurd (omega arith)

  -- a chain of steps is the run of a list of as many picks
  record Run (k : ℕ) (m m'' : Counts) : Type 0 where
    picks : List ℕ
    many : length picks ≡ k
    well_formed : (w : ℕ) → Memᴰ w picks → is_pick w ≡ true
    there : (w : ℕ) → Memᴰ w picks → pick_transition w < length net.transitions
    run : (done : ℕ) → plain_run table net l m done picks ≡ record { counts = m''; done = done + k; refusal = 0 }

  chain_run : {k : ℕ} {m m'' : Counts} → OccurrenceSequence table net l k m m'' → Run k m m''
  unfolding plain_run
  chain_run stay = record { picks = []; many = refl; well_formed = λ w k. absurd (Memᴰ.not-nil k); there = λ w k. absurd (Memᴰ.not-nil k); run = λ done. rw add-zero }
  chain_run (occurs {k} {m} {m'} {m''} g c) = by (leg_pick m m' g) (chain_run c)
    where
      by : (w : ℕ) × Picks m m' w → Run k m' m'' → Run (suc k) m m''
      by w r =
          record {
            picks = w.0 ∷ r.picks;
            many = ap suc r.many;
            well_formed = λ v j. formed w r v (Memᴰ.cases_cons j);
            there = λ v j. found w r v (Memᴰ.cases_cons j);
            run = λ done. let s : done + 1 + k ≡ done + suc k = omega arith in rw (w.1.leads, r.run (done + 1), s);
          }
        where
          formed : (w : (w : ℕ) × Picks m m' w) (r : Run k m' m'') (v : ℕ) → (v ≡ w.0) ⊎ Memᴰ v r.picks → is_pick v ≡ true
          formed w r v (inl e) = rw e w.1.well_formed
          formed w r v (inr j) = r.well_formed v j

          found : (w : (w : ℕ) × Picks m m' w) (r : Run k m' m'') (v : ℕ) → (v ≡ w.0) ⊎ Memᴰ v r.picks → pick_transition v < length net.transitions
          found w r v (inl e) = rw e w.1.there
          found w r v (inr j) = r.there v j

-- ── The call ──

none_that : (p : ℕ → Bool) (ws : List ℕ) (at : ℕ) → ((w : ℕ) → Memᴰ w ws → p w ≡ false) → first_that p ws at ≡ none
unfolding first_that
none_that p [] at f = refl
none_that p (w ∷ ws) at f = rw (f w (Memᴰ.head refl), none_that p ws (at + 1) (λ v k. f v (Memᴰ.tail k)))

marking-there : (net : Net) (buffer : List ℕ) (m : ℕ) (es : List Entry) (j : ℕ) → marking_in net buffer m ≡ read es j → read_marking net (take m buffer) ≡ read es j
unfolding marking_in
marking-there net buffer m es j h = by (either (leb m (length buffer)))
  where
    by : (leb m (length buffer) ≡ true) ⊎ (leb m (length buffer) ≡ false) → read_marking net (take m buffer) ≡ read es j
    by (inl e) = rw e at h
    by (inr e) = refused-read bad_marking (length buffer) es j (rw e at h)

module _ (nw : List ℕ) (net : Net) (next : ℕ) (is-net : accept_net nw ≡ read net next)
    (buffer : List ℕ) (m : ℕ) (es : List Entry) (i : ℕ) (is-first : marking_in net buffer m ≡ read es i)
    (last : List ℕ) (fs : List Entry) (j : ℕ) (is_last : read_marking net last ≡ read fs j)
    (budget : ℕ) (spare menu : List ℕ) where
  sound : SoundNet net
  sound = accepted_sound nw net next is-net

  first-proper : Proper net (counts_of es)
  first-proper = marking_proper net (take m buffer) es i (marking-there net buffer m es i is-first)

  -- what a run is handed where its picks are accepted
  given : Start
  given = record { net = net; counts = counts_of es }

  starts : (picks : List ℕ) → first_unknown (length net.transitions) picks ≡ none → first_malformed picks ≡ none → start nw buffer m picks ≡ read given 0
  unfolding start given
  starts picks p q = rw (is-net, p, is-first, q)

  started : (picks : List ℕ) (s : Start) → start nw buffer m picks ≡ read s 0 → start nw buffer m picks ≡ read given 0
  unfolding start given
  started picks s h = by (first_unknown (length net.transitions) picks) (first_malformed picks) refl refl
    where
      by : (p q : Option ℕ) → first_unknown (length net.transitions) picks ≡ p → first_malformed picks ≡ q → start nw buffer m picks ≡ read given 0
      by none none x y = starts picks x y
      by (some a) q x y = refused-read no_transition a s 0 (rw (is-net, x) at h)
      by none (some a) x y = refused-read bad_pick a s 0 (rw (is-net, x, is-first, y) at h)

  end : List ℕ → End
  end picks = plain_run house_table net (limits budget buffer spare menu) (counts_of es) 0 picks

  -- the run of accepted picks
  ran : (picks : List ℕ) → start nw buffer m picks ≡ read given 0 → run_call nw budget buffer m spare menu picks ≡ ran_to net buffer spare menu (end picks)
  unfolding run_call given end
  ran picks h = rw h

  -- counts with the words of the last marking are its counts
  same-counts : (n : Counts) → Proper net n → marking_words net n ≡ last → n ≡ counts_of fs
  same-counts n p e =
      let short : length (marking_words net n) ≤ most_words = rw e (marking_short net last fs j is_last).0 in
      let w = words_marking net sound.few-places (narrow net sound) n p short in
      let q : read w.0 (length (marking_words net n)) ≡ read fs j = sym w.1 ∙ ap (read_marking net) e ∙ is_last in
      let r : w.0 ≡ fs = cc in
      sym w.2 ∙ ap counts_of r

  reached : (k : ℕ) → (picks : List ℕ) × (length picks ≡ k) × Ends nw budget buffer m spare menu picks last → OccurrenceSequence house_table net (limits budget buffer spare menu) k (counts_of es) (counts_of fs)
  unfolding end
  reached k r =
      let e = sym (ran r.0 (started r.0 r.2.handed r.2.accepted)) ∙ r.2.end in
      let c = run_chain house_table net (limits budget buffer spare menu) sound r.0 (counts_of es) 0 first-proper (ap (λ (x : RunEnd). x.answer.refusal) e) in
      let n = ap (λ (x : RunEnd). x.answer.length) e in
      let b = ap (λ (x : RunEnd). x.buffer) e in
      let w = sym (take_at (marking_words net (end r.0).counts) (replicate (length buffer - length (marking_words net (end r.0).counts)) 0) (length last) n) ∙ ap (take (length last)) b ∙ take_at last (replicate (length buffer - length last) 0) (length last) refl in
      let q = same-counts (end r.0).counts c.proper w in
      rw (← q, ← r.1) c.chain

  reaching : (k : ℕ) → OccurrenceSequence house_table net (limits budget buffer spare menu) k (counts_of es) (counts_of fs) → (picks : List ℕ) × (length picks ≡ k) × Ends nw budget buffer m spare menu picks last
  unfolding end
  reaching k c = (r.picks, r.many, record { handed = given; accepted = accepted; end = ran r.picks accepted ∙ arrives })
    where
      r : Run house_table net (limits budget buffer spare menu) sound k (counts_of es) (counts_of fs)
      r = chain_run house_table net (limits budget buffer spare menu) sound c

      accepted : start nw buffer m r.picks ≡ read given 0
      accepted = starts r.picks (none_that (λ w. is_pick w && leb (length net.transitions) (pick_transition w)) r.picks 0 (λ w k. ap (λ (t : Bool). t && leb (length net.transitions) (pick_transition w)) (r.well_formed w k) ∙ lt-leb (length net.transitions) (pick_transition w) (r.there w k))) (none_that (λ w. not (is_pick w)) r.picks 0 (λ w k. ap not (r.well_formed w k)))

      all : 0 + k ≡ length r.picks
      all = zero-add k ∙ sym r.many

      arrives : ran_to net buffer spare menu (end r.picks) ≡ record { answer = record { done = length r.picks; refusal = 0; position = 0; length = length last }; buffer = last ++ replicate (length buffer - length last) 0; spare = zeroed spare; menu = zeroed menu }
      arrives = ap (ran_to net buffer spare menu) (r.run 0) ∙ rw (all, marking-words net last fs j is_last)

  pub reach : (k : ℕ) → ((picks : List ℕ) × (length picks ≡ k) × Ends nw budget buffer m spare menu picks last) ↔ OccurrenceSequence house_table net (limits budget buffer spare menu) k (counts_of es) (counts_of fs)
  reach k = (reached k, reaching k)
