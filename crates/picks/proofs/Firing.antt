-- The rules of firing into the spare and copying back: what fire leaves at the front of the spare is at the front of the buffer afterwards.
use mathlib.Core.Path.{◌≡◌, refl, sym, ap, ◌∙◌, subst}
use mathlib.Core.Bool.{true}
use mathlib.Core.List.{List, ◌++◌}
use Prim.Native.Nat.{ℕ, ◌+◌, ◌-◌, ◌*◌, ◌/◌, ◌%◌, min, ◌≤◌}
use native.Mathlib.Omega.{arith}
use lib.ListN.{length, get_or, take, drop, length-append, length-take}
use lib.Seq.{slice, length-take-le, take_at, take-append-le}
use Rattle.std.specs.Prelude.{Result, Ok, Err}
use Rattle.semantics.specs.declared.refusal.Refusal.{Refusal}
use Rattle.semantics.specs.Answer.{Written, FireRefused, number_of, position_of}
use Rattle.semantics.specs.Expression.{house_table}
use Rattle.semantics.specs.Net.{Net}
use Rattle.semantics.specs.Marking.{counts_of, marking_words}
use Rattle.semantics.specs.Enabling.{Firing, moved, stopped, is_enabled}
use Rattle.semantics.specs.Run.{fire}
use Rattle.semantics.specs.Calls.{FireEnd, fired_by}
use Rattle.net.specs.Parted.{variables_in, inputs_in, outputs_in}
use Rattle.steps.specs.Steps.{fire_end, BeginsThen}
use Rattle.firing.specs.Fire.{FireableAt, IsFiredEnabled}
use Rattle.firing.proofs.Firing.{enabled_at}
use Rattle.patch.specs.Patch.{written}
use Rattle.spares.specs.Spare.{Unspared}
use Rattle.arrivals.specs.World.{World}
use Rattle.search.specs.Scene.{scene_of}
use Rattle.rests.proofs.Resting.{part-is}
use Rattle.picks.specs.Pick.{Lists, Leaves, Fires, row, FiresRow, IsFiredAt}

-- what fire answers and leaves, by what it comes to
leaves-refused : (net : Net) (part after buffer : List ℕ) (size : ℕ) (e : Refusal) (x : Firing) → fire_end (Err e) after ≡ fired_by net part x → Leaves net buffer size (Err e) buffer x
leaves-refused net part after buffer size e (moved m) h = let a : FireRefused (number_of e) (position_of e) ≡ Written (length (marking_words net m)) = ap (λ (f : FireEnd). f.answer) h in cc
leaves-refused net part after buffer size e (stopped k) h = (ap (λ (f : FireEnd). f.answer) h, refl)

module _ (net : Net) (part after : List ℕ) (next : ℕ) where
  -- the new marking stands in front of what was there
  written-inside : (x : Firing) → fire_end (Ok next) after ≡ fired_by net part x → next ≤ length after
  written-inside (stopped k) h = let a : Written next ≡ FireRefused k 0 = ap (λ (f : FireEnd). f.answer) h in cc
  written-inside (moved m) h =
      let a : Written next ≡ Written (length (marking_words net m)) = ap (λ (f : FireEnd). f.answer) h in
      let n : next ≡ length (marking_words net m) = cc in
      let w = ap length (ap (λ (f : FireEnd). f.buffer) h) ∙ length-append (marking_words net m) (drop (length (marking_words net m)) part) in
      omega arith

  leaves-written : (buffer : List ℕ) (size : ℕ) (b : List ℕ) → take next b ≡ take next after → (x : Firing) → fire_end (Ok next) after ≡ fired_by net part x → Leaves net buffer size (Ok next) b x
  leaves-written buffer size b g (stopped k) h = let a : Written next ≡ FireRefused k 0 = ap (λ (f : FireEnd). f.answer) h in cc
  leaves-written buffer size b g (moved m) h =
      let a : Written next ≡ Written (length (marking_words net m)) = ap (λ (f : FireEnd). f.answer) h in
      let n : next ≡ length (marking_words net m) = cc in
      let t : take next after ≡ marking_words net m = ap (take next) (ap (λ (f : FireEnd). f.buffer) h) ∙ take_at (marking_words net m) (drop (length (marking_words net m)) part) next (sym n) in
      (a, ap (λ (k : ℕ). take k b) (sym n) ∙ g ∙ t)

module _ {ws ps is os begins : List ℕ} (buffer : List ℕ) (size : ℕ) (spare : List ℕ) {bs : List ℕ} {room : ℕ} (e : room ≡ min (length spare) (length buffer)) {a : Result ℕ Refusal} {after begins' : List ℕ} (f : IsFiredEnabled ws ps is os (take size buffer) begins bs (take room spare) a after begins') where
  roomy : length (take room spare) ≡ min (length buffer) (length spare)
  roomy = let l = length-take room spare in omega arith

  comes : (gs : List ℕ) (q : FireableAt ws ps gs is os (take size buffer) begins bs) → is_enabled house_table q.transition (counts_of q.entries) q.binding ≡ true → fire_end a after ≡ fired_by q.net (take room spare) (fire house_table q.net (min (length buffer) (length spare)) q.transition (counts_of q.entries) q.binding)
  comes gs q t = ((f.fired gs (enabled_at q t)).fired q).end ∙ ap (λ (k : ℕ). fired_by q.net (take room spare) (fire house_table q.net k q.transition (counts_of q.entries) q.binding)) roomy

  leaves : {b : List ℕ} → ((net : Net) (x : Firing) → fire_end a after ≡ fired_by net (take room spare) x → Leaves net buffer size a b x) → IsFiredAt ws ps is os begins buffer size spare bs a b begins'
  leaves h = record {
    fired = λ gs q t. h q.net (fire house_table q.net (min (length buffer) (length spare)) q.transition (counts_of q.entries) q.binding) (comes gs q t);
    begun = λ gs q t. subst (λ (k : ℕ). BeginsThen q.net begins begins' (fire house_table q.net k q.transition (counts_of q.entries) q.binding)) roomy ((f.fired gs (enabled_at q t)).fired q).begun;
  }

module _ {ws ps is os begins : List ℕ} (buffer : List ℕ) (size : ℕ) (spare : List ℕ) {bs : List ℕ} {room : ℕ} (e : room ≡ min (length spare) (length buffer)) {after begins' : List ℕ} where
  pub fired-refused : {d : Refusal} → IsFiredEnabled ws ps is os (take size buffer) begins bs (take room spare) (Err d) after begins' → IsFiredAt ws ps is os begins buffer size spare bs (Err d) buffer begins'
  fired-refused {d} f = leaves buffer size spare e f (λ net x. leaves-refused net (take room spare) after buffer size d x)

  module _ {next : ℕ} (f : IsFiredEnabled ws ps is os (take size buffer) begins bs (take room spare) (Ok next) after begins') (F : Fires ws ps is os begins buffer size bs) (l : length after ≡ length (take room spare)) where
    inside : next ≤ length after
    inside = written-inside F.fireable.net (take room spare) after next _ (comes buffer size spare e f F.conjuncts F.fireable F.enabled)

    -- the new marking stands in the spare and has room in the buffer
    pub copy_fits : (rest : List ℕ) → (0 ≤ next) × (next ≤ length (after ++ rest)) × (0 + (next - 0) ≤ length buffer)
    copy_fits rest =
        let i = inside in
        let r = length-take room spare in
        let k = length-append after rest in
        (omega arith, omega arith, omega arith)

    pub fired-written : {b : List ℕ} (rest : List ℕ) → b ≡ written buffer 0 (slice 0 next (after ++ rest)) → IsFiredAt ws ps is os begins buffer size spare bs (Ok next) b begins'
    fired-written {b} rest g = leaves buffer size spare e f (λ net x. leaves-written net (take room spare) after next buffer size b front x)
      where
        cut : slice 0 next (after ++ rest) ≡ take next after
        cut = take-append-le next after rest inside

        front : take next b ≡ take next after
        front = ap (take next) (g ∙ ap (written buffer 0) cut) ∙ take_at (take next after) (drop (0 + length (take next after)) buffer) next (length-take-le next after inside)

-- the parts of a transition, and the part of a menu from a row's first word to its last
module _ {ws ps : List ℕ} {head : ℕ} {own begins buffer : List ℕ} {size : ℕ} {menu : List ℕ} {i : ℕ} (Q : FiresRow ws ps head own begins buffer size menu i) where
  abbrev v : ℕ
  v = variables_in head

  pub row-fires : Fires ws ps (inputs_in head own) (take (8 + head / 256 % 16 - 8) (drop 8 own)) begins buffer size (take (i * v + v - i * v) (drop (i * v) menu))
  row-fires = rw (part-is 8 (head / 256 % 16) own, part-is (i * v) v menu) Q.fires

  pub row-fired : {spare : List ℕ} {r : Result ℕ Refusal} {b begins' : List ℕ} → IsFiredAt ws ps (inputs_in head own) (take (8 + head / 256 % 16 - 8) (drop 8 own)) begins buffer size spare (take (i * v + v - i * v) (drop (i * v) menu)) r b begins' → IsFiredAt ws ps (inputs_in head own) (outputs_in head own) begins buffer size spare (row v i menu) r b begins'
  row-fired f = rw (part-is 8 (head / 256 % 16) own, part-is (i * v) v menu) at f

-- ── The menu ──

-- the parts of a transition, as they are cut out of its positions
pub parts-listed : {ws ps : List ℕ} {position head : ℕ} {own rest ms begins : List ℕ} → Lists ws ps position head own rest ms begins → World ws ps position (variables_in head) (inputs_in head own) (take (16 + head / 4096 % 16 - 16) (drop 16 own)) (take (24 + head / 65536 % 16 - 24) (drop 24 own)) ms begins (scene_of ws position ms)
parts-listed {head = head} {own = own} L = rw (part-is 16 (head / 4096 % 16) own, part-is 24 (head / 65536 % 16) own) L.world

pub arcs-tested : {ws ps : List ℕ} {position head : ℕ} {own rest ms begins : List ℕ} → Lists ws ps position head own rest ms begins → Unspared ws ps (inputs_in head own) (take (24 + head / 65536 % 16 - 24) (drop 24 own)) (take (get_or rest 8 0) rest)
arcs-tested {head = head} {own = own} L = rw (part-is 24 (head / 65536 % 16) own) L.tested.unspared
