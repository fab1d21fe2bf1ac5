-- The rules of the call: a start that is refused is the answer; otherwise the buffer begins with the marking where the run ended, and the rest is cleared.
use mathlib.Core.Path.{◌≡◌, sym, ap, ◌∙◌, subst}
use mathlib.Core.List.{List, [], ◌++◌, append-nil}
use Prim.Native.Nat.{ℕ, ◌-◌, min, ◌≤◌}
use native.Mathlib.Omega.{arith}
use lib.ListN.{length, take, drop, replicate, length-drop}
use lib.Seq.{take_all, drop-length}
use Rattle.std.specs.Prelude.{Some}
use Rattle.semantics.specs.declared.refusal.Refusal.{Refusal}
use Rattle.semantics.specs.Answer.{refusing}
use Rattle.semantics.specs.Reading.{Reading, read}
use Rattle.semantics.specs.Expression.{house_table}
use Rattle.semantics.specs.Net.{Net}
use Rattle.semantics.specs.Plan.{accept_net}
use Rattle.semantics.specs.Marking.{Entry, counts_of}
use Rattle.semantics.specs.Run.{End, plain_run}
use Rattle.semantics.specs.Calls.{start, limits, ran_to, ran_from, run_call}
use Rattle.net.specs.declared.index.NetIndex.{NetIndex}
use Rattle.marking.specs.Marked.{marking_read}
use Rattle.search.specs.Scene.{net_of, counts_in}
use Rattle.run.specs.declared.run.Ended.{Ended}
use Rattle.starts.specs.Known.{NetKnown}
use Rattle.starts.specs.Start.{Started}
use Rattle.run.specs.Run.{Runnable, HasRun, HasRunFrom, run_end}
use Rattle.run.proofs.Running.{picks_known}

-- a list whose part from a on was cleared
tail_cleared : (a : ℕ) (xs ys : List ℕ) → ys ≡ replicate (length (take (length xs - a) (drop a xs))) 0 → take a xs ++ (ys ++ drop (length xs - a) (drop a xs)) ≡ take a xs ++ replicate (length xs - a) 0
tail_cleared a xs ys e =
    let l = length-drop a xs in
    let all : take (length xs - a) (drop a xs) ≡ drop a xs = take_all (length xs - a) (drop a xs) (omega arith) in
    let none : drop (length xs - a) (drop a xs) ≡ [] = ap (λ (k : ℕ). drop k (drop a xs)) (sym l) ∙ drop-length (drop a xs) in
    let ys' : ys ≡ replicate (length xs - a) 0 = e ∙ ap (λ (k : List ℕ). replicate (length k) 0) all ∙ ap (λ (k : ℕ). replicate k 0) l in
    rw (none, ys') (ap (λ (k : List ℕ). take a xs ++ k) (append-nil (replicate (length xs - a) 0)))

-- a buffer that begins with the marking at a run's end, cleared behind it, and the other buffers cleared
settled : (net : Net) (buffer spare menu : List ℕ) (e : End) (r : Ended) (after : List ℕ) → HasRun net e r after → length after ≡ length buffer → run_end (record { done = r.done; stopped = r.stopped; length = r.length }) (take r.length after ++ replicate (length after - r.length) 0) (replicate (length spare) 0) (replicate (length menu) 0) ≡ ran_to net buffer spare menu e
settled net buffer spare menu e r after h l = rw (h.words, l, h.done, h.stopped, h.size)

module _ (ws : List ℕ) (budget : ℕ) (buffer : List ℕ) (m : ℕ) (spare menu picks : List ℕ) where
  pub run_unstarted : (e : Refusal) → start ws buffer m picks ≡ refusing e → run_end (record { done = 0; stopped = Some e; length = 0 }) buffer spare menu ≡ run_call ws budget buffer m spare menu picks
  unfolding run_call
  run_unstarted e b = rw b

  module _ {i : NetIndex} {parts : List ℕ} (S : Started ws buffer m picks i parts) where
    net-is : S.net ≡ net_of (accept_net ws)
    net-is = sym (ap net_of S.known.accepted)

    marked : marking_read (net_of (accept_net ws)).places (take m buffer) ≡ read S.entries S.end
    marked = ap (λ (n : Net). marking_read n.places (take m buffer)) (sym net-is) ∙ S.marked

    pub run_runnable : {p q : ℕ} → p ≡ min i.places 64 → q ≡ min i.transitions 64 → Runnable ws (take p i.places_at) (take q i.transitions_at) parts buffer m picks
    run_runnable {p} {q} f g =
        rw (f, g)
        (record {
          known = subst (NetKnown ws (take (min i.places 64) i.places_at) (take (min i.transitions 64) i.transitions_at) parts) net-is S.known;
          inside = S.inside;
          entries = S.entries;
          end = S.end;
          marked = marked;
          there = rw (← net-is) (picks_known (length S.net.transitions) picks 0 0 S.named S.formed);
        })

    called : run_call ws budget buffer m spare menu picks ≡ ran_to (net_of (accept_net ws)) buffer spare menu (plain_run house_table (net_of (accept_net ws)) (limits budget buffer spare menu) (counts_in (marking_read (net_of (accept_net ws)).places (take m buffer))) 0 picks)
    unfolding run_call
    called =
        ap (ran_from budget buffer spare menu picks) S.same
        ∙ ap (λ (n : Net). ran_to n buffer spare menu (plain_run house_table n (limits budget buffer spare menu) (counts_of S.entries) 0 picks)) net-is
        ∙ ap (λ (x : Reading (List Entry)). ran_to (net_of (accept_net ws)) buffer spare menu (plain_run house_table (net_of (accept_net ws)) (limits budget buffer spare menu) (counts_in x) 0 picks)) (sym marked)

    module _ {r : Ended} {after : List ℕ} (h : HasRunFrom ws budget buffer m spare menu picks r after) where
      pub run_inside : r.length ≤ length after
      run_inside = h.inside

      module _ (l : length after ≡ length buffer) {tail spare' menu' : List ℕ} {x y : ℕ} where
        pub run_ended : tail ≡ replicate (length (take (length after - r.length) (drop r.length after))) 0 → x ≡ length spare → spare' ≡ replicate x 0 → y ≡ length menu → menu' ≡ replicate y 0 → run_end (record { done = r.done; stopped = r.stopped; length = r.length }) (take r.length after ++ (tail ++ drop (length after - r.length) (drop r.length after))) spare' menu' ≡ run_call ws budget buffer m spare menu picks
        run_ended t i s j u =
            rw (tail_cleared r.length after tail t, s ∙ ap (λ (k : ℕ). replicate k 0) i, u ∙ ap (λ (k : ℕ). replicate k 0) j) (settled (net_of (accept_net ws)) buffer spare menu _ r after h l ∙ sym called)
