-- The rules of a run: the marking at the front of the buffer is where the plain run of the picks so far ended, and by the law of two lists of picks,
-- one after the other, the whole run goes on from there.
use mathlib.Core.Path.{◌≡◌, refl, sym, ap, ◌∙◌, subst}
use mathlib.Core.Bool.{Bool, true, false, not, ◌&&◌}
use mathlib.Core.Logic.{◌⊎◌, inl, inr}
use mathlib.Core.List.{List, [], ◌∷◌, ◌++◌}
use mathlib.Core.Option.{none}
use Prim.Native.Nat.{ℕ, suc, ◌+◌, ◌≤◌, ◌<◌}
use native.Mathlib.Omega.{arith}
use borrow.Author.Tests.{leb-false}
use lib.Dec.{leb}
use lib.ListN.{length, get_or, take, drop}
use lib.Seq.{length-take-le, take_all, take-suc, split_at}
use Rattle.std.specs.Prelude.{None, Some, Ok, Err}
use Rattle.semantics.specs.declared.refusal.Refusal.{Refusal}
use Rattle.semantics.specs.Answer.{Refusal as Stop, Written, FireRefused, number_of, position_of}
use Rattle.semantics.specs.Lists.{Every}
use Rattle.semantics.specs.Reading.{Reading, read}
use Rattle.semantics.specs.Expression.{house_table}
use Rattle.semantics.specs.Net.{Net}
use Rattle.semantics.specs.Plan.{accept_net}
use Rattle.semantics.specs.Marking.{Entry, Counts, read_marking, counts_of, marking_words, is_pick, pick_transition, first_that}
use Rattle.semantics.specs.Enabling.{Firing, moved, stopped}
use Rattle.semantics.specs.Run.{Limits, pick, End, plain_run}
use Rattle.semantics.specs.Calls.{limits}
use Rattle.semantics.proofs.Tests.{false_true, either}
use Rattle.semantics.proofs.Members.{none-some, every-number}
use Rattle.semantics.proofs.Accepted.{SoundNet, accepted_sound}
use Rattle.semantics.proofs.Markings.{marking-words, marking_proper}
use Rattle.semantics.proofs.Run.{further, run_append, run_refused, run_fired}
use Rattle.semantics.proofs.Reach.{Marks, pick-marks}
use Rattle.net.specs.Places.{places_at}
use Rattle.marking.specs.Marked.{marking_read, Begins, BeginsFor}
use Rattle.beginnings.specs.Indexed.{Accepted, Indexed}
use Rattle.steps.specs.Steps.{BeginsThen}
use Rattle.search.specs.Scene.{net_of, counts_in}
use Rattle.rests.specs.Rests.{RestsKept}
use Rattle.picks.specs.Pick.{Leaves, Pickable, IsPicked}
use Rattle.run.specs.Run.{Runnable, HasRun}

-- ── Picks that are all good ──

none_first : (p : ℕ → Bool) (w : ℕ) (ws : List ℕ) (at : ℕ) → first_that p (w ∷ ws) at ≡ none → (p w ≡ false) × (first_that p ws (at + 1) ≡ none)
unfolding first_that
none_first p w ws at e = by (either (p w))
  where
    by : (p w ≡ true) ⊎ (p w ≡ false) → (p w ≡ false) × (first_that p ws (at + 1) ≡ none)
    by (inl h) = none-some (sym (rw h at e))
    by (inr h) = (h, rw h at e)

-- a word that is a pick, and no pick of a transition that is not there, is a pick of one that is
known-pick : (n w : ℕ) → (is_pick w && leb n (pick_transition w)) ≡ false → not (is_pick w) ≡ false → pick_transition w < n
known-pick n w = by (is_pick w) (leb n (pick_transition w)) (leb-false n (pick_transition w))
  where
    by : (a b : Bool) → (b ≡ false → pick_transition w < n) → (a && b) ≡ false → not a ≡ false → pick_transition w < n
    by true b f e g = f e
    by false b f e g = false_true (sym g)

pub picks_known : (n : ℕ) (picks : List ℕ) (i j : ℕ) → first_that (λ w. is_pick w && leb n (pick_transition w)) picks i ≡ none → first_that (λ w. not (is_pick w)) picks j ≡ none → Every (λ w. pick_transition w < n) picks
picks_known n [] i j e f = tt
picks_known n (w ∷ picks) i j e f =
    let a = none_first (λ w. is_pick w && leb n (pick_transition w)) w picks i e in
    let b = none_first (λ w. not (is_pick w)) w picks j f in
    (known-pick n w a.0 b.0, picks_known n picks (i + 1) (j + 1) a.1 b.1)

-- ── What a pick left ──

pub record Halted (buffer : List ℕ) (size : ℕ) (e : Refusal) (after : List ℕ) (x : Firing) : Type 0 where
  pub is : x ≡ stopped (number_of e)
  pub nowhere : position_of e ≡ 0
  pub front : take size after ≡ take size buffer

halts : (net : Net) (buffer : List ℕ) (size : ℕ) (e : Refusal) (after : List ℕ) (x : Firing) → Leaves net buffer size (Err e) after x → Halted buffer size e after x
halts net buffer size e after (moved m) l = let a : FireRefused (number_of e) (position_of e) ≡ Written (length (marking_words net m)) = l.0 in cc
halts net buffer size e after (stopped n) l = let a : FireRefused (number_of e) (position_of e) ≡ FireRefused n 0 = l.0 in record { is = cc; nowhere = cc; front = l.1 }

pub record Fires (net : Net) (next : ℕ) (after : List ℕ) (x : Firing) : Type 0 where
  pub counts : Counts
  pub is : x ≡ moved counts
  pub size : next ≡ length (marking_words net counts)
  pub front : take next after ≡ marking_words net counts

fires : (net : Net) (buffer : List ℕ) (size next : ℕ) (after : List ℕ) (x : Firing) → Leaves net buffer size (Ok next) after x → Fires net next after x
fires net buffer size next after (moved m) l =
    let a : Written next ≡ Written (length (marking_words net m)) = l.0 in
    let n : next ≡ length (marking_words net m) = cc in
    record { counts = m; is = refl; size = n; front = rw n l.1 }
fires net buffer size next after (stopped n) l = let a : Written next ≡ FireRefused n 0 = l.0 in cc

-- ── The run so far ──

abbrev net : List ℕ → Net
net ws = net_of (accept_net ws)

-- the counts that a run starts from
abbrev first : List ℕ → List ℕ → ℕ → Counts
first ws buffer m = counts_in (marking_read (net ws).places (take m buffer))

sound : {ws ps transitions parts buffer : List ℕ} {m : ℕ} {picks : List ℕ} → Runnable ws ps transitions parts buffer m picks → SoundNet (net ws)
sound {ws} R = accepted_sound ws (net ws) R.known.whole R.known.accepted

-- the marking that it starts from, by the places where they stand
pub run_accepted : {ws ps transitions parts buffer : List ℕ} {m : ℕ} {picks : List ℕ} → Runnable ws ps transitions parts buffer m picks → Accepted (places_at ws ps) (take m buffer)
run_accepted {buffer = buffer} {m = m} R = record { entries = R.entries; end = R.end; marked = subst (λ places. marking_read places (take m buffer) ≡ read R.entries R.end) R.known.placed R.marked }

pub record Sofar (ws : List ℕ) (budget : ℕ) (buffer₀ : List ℕ) (m : ℕ) (spare₀ menu₀ picks begins buffer spare menu : List ℕ) (done size : ℕ) : Type 0 where
  pub many : done ≤ length picks
  pub buffer-kept : length buffer ≡ length buffer₀
  pub spare-kept : length spare ≡ length spare₀
  pub menu-kept : length menu ≡ length menu₀
  pub inside : size ≤ length buffer
  pub entries : List Entry
  pub end : ℕ
  pub marked : marking_read (net ws).places (take size buffer) ≡ read entries end
  pub full : length begins ≡ 65
  pub begun : Begins (net ws).places entries begins
  pub ran : plain_run house_table (net ws) (limits budget buffer₀ spare₀ menu₀) (first ws buffer₀ m) 0 (take done picks) ≡ record { counts = counts_of entries; done = done; refusal = 0 }

module _ {ws ps transitions parts : List ℕ} {budget : ℕ} {buffer₀ : List ℕ} {m : ℕ} {spare₀ menu₀ picks : List ℕ} (R : Runnable ws ps transitions parts buffer₀ m picks) where
  pub sofar_first : {begins : List ℕ} → Indexed (places_at ws ps) (take m buffer₀) begins → Sofar ws budget buffer₀ m spare₀ menu₀ picks begins buffer₀ spare₀ menu₀ 0 m
  unfolding plain_run run_accepted
  sofar_first {begins} z = record {
    many = omega arith;
    buffer-kept = refl;
    spare-kept = refl;
    menu-kept = refl;
    inside = R.inside;
    entries = R.entries;
    end = R.end;
    marked = R.marked;
    full = z.long;
    begun = subst (λ places. Begins places R.entries begins) (sym R.known.placed) (z.of R.entries R.end (run_accepted R).marked);
    ran = ap (λ (x : Reading (List Entry)). record { counts = counts_in x; done = 0; refusal = 0 }) R.marked;
  }

  module _ {begins buffer spare menu : List ℕ} {done size : ℕ} (S : Sofar ws budget buffer₀ m spare₀ menu₀ picks begins buffer spare menu done size) where
    reads : read_marking (net ws) (take size buffer) ≡ read S.entries S.end
    unfolding read_marking marking_read
    reads = S.marked

    words : take size buffer ≡ marking_words (net ws) (counts_of S.entries)
    words = sym (marking-words (net ws) (take size buffer) S.entries S.end reads)

    sized : size ≡ length (marking_words (net ws) (counts_of S.entries))
    sized = sym (length-take-le size buffer S.inside) ∙ ap length words

    -- the whole run goes on from here
    onward : (rest : List ℕ) → picks ≡ take done picks ++ rest → plain_run house_table (net ws) (limits budget buffer₀ spare₀ menu₀) (first ws buffer₀ m) 0 picks ≡ plain_run house_table (net ws) (limits budget buffer₀ spare₀ menu₀) (counts_of S.entries) done rest
    onward rest e = ap (plain_run house_table (net ws) (limits budget buffer₀ spare₀ menu₀) (first ws buffer₀ m) 0) e ∙ run_append house_table (net ws) (limits budget buffer₀ spare₀ menu₀) (take done picks) rest (first ws buffer₀ m) 0 ∙ ap (λ (x : End). further house_table (net ws) (limits budget buffer₀ spare₀ menu₀) x rest) S.ran

    pub sofar_ended : length picks ≤ done → HasRun (net ws) (plain_run house_table (net ws) (limits budget buffer₀ spare₀ menu₀) (first ws buffer₀ m) 0 picks) (record { done = done; stopped = None; length = size }) buffer
    sofar_ended h =
        let e : plain_run house_table (net ws) (limits budget buffer₀ spare₀ menu₀) (first ws buffer₀ m) 0 picks ≡ record { counts = counts_of S.entries; done = done; refusal = 0 } = ap (plain_run house_table (net ws) (limits budget buffer₀ spare₀ menu₀) (first ws buffer₀ m) 0) (sym (take_all done picks h)) ∙ S.ran in
        rw e (record { done = refl; stopped = refl; size = sized; inside = S.inside; words = words })

    module _ (h : done < length picks) where
      pub sofar_pickable : {rests : List ℕ} → RestsKept ws ps transitions parts (length transitions) rests → Pickable ws ps transitions parts rests begins buffer size (get_or picks done 0)
      sofar_pickable K = record { known = R.known; rested = K; inside = S.inside; entries = S.entries; end = S.end; marked = S.marked; full = S.full; begun = S.begun; there = every-number (λ w. pick_transition w < length (net ws).transitions) picks done 0 R.there h }

      same-limits : limits budget buffer spare menu ≡ (limits budget buffer₀ spare₀ menu₀)
      same-limits = rw (S.buffer-kept, S.spare-kept, S.menu-kept)

      pick_same : pick house_table (net ws) (limits budget buffer spare menu) (counts_in (marking_read (net ws).places (take size buffer))) (get_or picks done 0) ≡ pick house_table (net ws) (limits budget buffer₀ spare₀ menu₀) (counts_of S.entries) (get_or picks done 0)
      pick_same = ap (λ (x : Reading (List Entry)). pick house_table (net ws) (limits budget buffer spare menu) (counts_in x) (get_or picks done 0)) S.marked ∙ ap (λ (x : Limits). pick house_table (net ws) x (counts_of S.entries) (get_or picks done 0)) same-limits

      goes_on : plain_run house_table (net ws) (limits budget buffer₀ spare₀ menu₀) (first ws buffer₀ m) 0 picks ≡ plain_run house_table (net ws) (limits budget buffer₀ spare₀ menu₀) (counts_of S.entries) done (get_or picks done 0 ∷ drop (suc done) picks)
      goes_on = onward (get_or picks done 0 ∷ drop (suc done) picks) (split_at picks done 0 h)

      pub sofar_refused : {e : Refusal} {after begins' : List ℕ} → IsPicked ws budget begins buffer size spare menu (get_or picks done 0) (Err e) after begins' → length after ≡ length buffer → HasRun (net ws) (plain_run house_table (net ws) (limits budget buffer₀ spare₀ menu₀) (first ws buffer₀ m) 0 picks) (record { done = done; stopped = Some e; length = size }) after
      sofar_refused {e} {after} P l =
          let p = halts (net ws) buffer size e after _ (subst (Leaves (net ws) buffer size (Err e) after) pick_same P.picked) in
          let x = goes_on ∙ run_refused house_table (net ws) (limits budget buffer₀ spare₀ menu₀) (counts_of S.entries) done (get_or picks done 0) (number_of e) (drop (suc done) picks) p.is in
          rw x (record { done = refl; stopped = ap (λ (k : ℕ). stop (number_of e) k) p.nowhere; size = sized; inside = omega (arith, S.inside, l); words = p.front ∙ words })
        where
          stop : ℕ → ℕ → Stop
          stop n k = record { number = n; position = k }

      module _ {next : ℕ} {after begins' : List ℕ} (P : IsPicked ws budget begins buffer size spare menu (get_or picks done 0) (Ok next) after begins') where
        F : Fires (net ws) next after (pick house_table (net ws) (limits budget buffer₀ spare₀ menu₀) (counts_of S.entries) (get_or picks done 0))
        F = fires (net ws) buffer size next after _ (subst (Leaves (net ws) buffer size (Ok next) after) pick_same P.picked)

        M : Marks house_table (net ws) (limits budget buffer₀ spare₀ menu₀) (sound R) F.counts
        M = pick-marks house_table (net ws) (limits budget buffer₀ spare₀ menu₀) (sound R) (counts_of S.entries) F.counts (get_or picks done 0) (marking_proper (net ws) (take size buffer) S.entries S.end reads) F.is

        marked : marking_read (net ws).places (take next after) ≡ read M.entries (length (marking_words (net ws) F.counts))
        unfolding read_marking marking_read
        marked = ap (marking_read (net ws).places) F.front ∙ M.marked

        begun-then : BeginsFor (net ws) F.counts begins'
        begun-then = subst (BeginsThen (net ws) begins begins') (pick_same ∙ F.is) P.begun

        one : plain_run house_table (net ws) (limits budget buffer₀ spare₀ menu₀) (counts_of S.entries) done (get_or picks done 0 ∷ []) ≡ record { counts = counts_of M.entries; done = done + 1; refusal = 0 }
        unfolding plain_run
        one = run_fired house_table (net ws) (limits budget buffer₀ spare₀ menu₀) (counts_of S.entries) F.counts done (get_or picks done 0) [] F.is ∙ ap (λ (x : Counts). record { counts = x; done = done + 1; refusal = 0 }) (sym M.counted)

        ran : plain_run house_table (net ws) (limits budget buffer₀ spare₀ menu₀) (first ws buffer₀ m) 0 (take (done + 1) picks) ≡ record { counts = counts_of M.entries; done = done + 1; refusal = 0 }
        ran =
            ap (plain_run house_table (net ws) (limits budget buffer₀ spare₀ menu₀) (first ws buffer₀ m) 0) (ap (λ (i : ℕ). take i picks) (let i : done + 1 ≡ suc done = omega arith in i) ∙ take-suc picks done 0 h)
            ∙ run_append house_table (net ws) (limits budget buffer₀ spare₀ menu₀) (take done picks) (get_or picks done 0 ∷ []) (first ws buffer₀ m) 0
            ∙ ap (λ (x : End). further house_table (net ws) (limits budget buffer₀ spare₀ menu₀) x (get_or picks done 0 ∷ [])) S.ran
            ∙ one

        pub sofar_fired : {spare' menu' : List ℕ} → length after ≡ length buffer → length spare' ≡ length spare → length menu' ≡ length menu → length begins' ≡ length begins → Sofar ws budget buffer₀ m spare₀ menu₀ picks begins' after spare' menu' (done + 1) next
        unfolding read_marking marking_read
        sofar_fired l s n f = record {
          many = omega arith;
          buffer-kept = l ∙ S.buffer-kept;
          spare-kept = s ∙ S.spare-kept;
          menu-kept = n ∙ S.menu-kept;
          inside = omega (arith, F.size, l, M.roomy, S.buffer-kept);
          entries = M.entries;
          end = length (marking_words (net ws) F.counts);
          marked = marked;
          full = f ∙ S.full;
          begun = begun-then.of M.entries (length (marking_words (net ws) F.counts)) M.marked M.counted;
          ran = ran;
        }
