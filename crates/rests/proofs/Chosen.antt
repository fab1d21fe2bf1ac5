-- A transition of a known net by its number: it was read where its position says, and its parts stand at its 32 positions in the table.
use mathlib.Core.Path.{◌≡◌, sym, ap, ◌∙◌, subst}
use mathlib.Core.List.{List, [], ◌∷◌, map}
use mathlib.Core.Option.{some}
use Prim.Native.Nat.{ℕ, zero, suc, ◌+◌, ◌*◌, ◌≤◌, ◌<◌}
use native.Mathlib.Omega.{arith}
use native.Mathlib.Nat.{zero-add}
use lib.ListN.{length, get_or, get_elem?, take, drop, length-map, length-drop}
use lib.Seq.{length-take-le}
use Rattle.semantics.specs.Lists.{Every}
use Rattle.semantics.specs.Reading.{read}
use Rattle.semantics.specs.Net.{Element, Transition, Net}
use Rattle.semantics.specs.ReadNet.{read_element, read_transition}
use Rattle.semantics.proofs.Members.{length_at}
use Rattle.semantics.proofs.Accepted.{accepted-read, accepted_sound}
use Rattle.net.specs.Skim.{outline}
use Rattle.net.specs.Parted.{variables_in, plan_in, Parted}
use Rattle.net.proofs.Located.{At, position_at, reads_at, transition-parts, net-transitions}
use Rattle.net.proofs.Standing.{inputs-stand}
use Rattle.net.proofs.Parted.{head-inside}
use Rattle.spares.specs.Spare.{Inside}
use Rattle.search.proofs.Worlds.{element-read}
use Rattle.starts.specs.Known.{NetKnown}
use Rattle.rests.specs.Rests.{Restable}

plan-inside : (ws : List ℕ) (es : List Element) → Every (At (read_element ws) (λ (e : Element). e.position)) es → (i : ℕ) → i < length es → get_or (map (λ (e : Element). e.position) es) i 0 < length ws
plan-inside ws [] h i l = absurd (omega arith)
plan-inside ws (e ∷ es) h zero l = (element-read ws e.position e h.0.next h.0.reads).inside
plan-inside ws (e ∷ es) h (suc i) l = plan-inside ws es h.1 i (omega arith)

pub known-number : {ws ps transitions parts : List ℕ} {net : Net} {k : ℕ} → NetKnown ws ps transitions parts net → k < length transitions → k < length net.transitions
known-number {net = net} K h = let l = ap length K.stand ∙ length-map net.transitions (λ (t : Transition). t.position) in omega arith

module _ {ws ps transitions parts : List ℕ} {net : Net} (K : NetKnown ws ps transitions parts net) {k : ℕ} (there : k < length net.transitions) where
  pub chosen : (t : Transition) × (get_elem? net.transitions k ≡ some t)
  chosen = length_at net.transitions k there

  pub among : k < length transitions
  among = let l = ap length K.stand ∙ length-map net.transitions (λ (t : Transition). t.position) in omega arith

  at_position : get_or transitions k 0 ≡ chosen.0.position
  at_position = position_at (λ (t : Transition). t.position) net.transitions transitions K.stand k chosen.0 chosen.1

  pub reads : (next : ℕ) × (read_transition ws net.places (get_or transitions k 0) ≡ read chosen.0 next)
  reads = reads_at (λ (t : Transition). t.position) net.transitions transitions K.stand k chosen.0 chosen.1 (read_transition ws net.places) (net-transitions ws 0 net K.whole (accepted-read ws net K.whole K.accepted))

  pub inside : get_or transitions k 0 < length ws
  inside = head-inside ws net.places (get_or transitions k 0) chosen.0 reads.0 reads.1

  pub few : k < 64
  few = let f = (accepted_sound ws net K.whole K.accepted).few-transitions in omega arith

  -- the positions of its parts are not the last 32 of the table
  is-kept : k * 32 + 64 ≤ length parts
  is-kept = let f = few in let l = K.long in omega arith

  pub room : k * 32 + 32 ≤ length parts
  room = let r = is-kept in omega arith

  pub parted : Parted (get_or ws (get_or transitions k 0) 0) (take 32 (drop (k * 32) parts)) (outline chosen.0)
  parted = subst (λ (q : ℕ). Parted (get_or ws q 0) (take 32 (drop (k * 32) parts)) (outline chosen.0)) (sym at_position) (K.kept.each k chosen.0 (rw (zero-add k) chosen.1) is-kept)

  pub own-long : length (take 32 (drop (k * 32) parts)) ≡ 32
  own-long = let l = length-drop (k * 32) parts in let r = room in length-take-le 32 (drop (k * 32) parts) (omega arith)

  elements_inside : Inside ws (plan_in (get_or ws (get_or transitions k 0) 0) (take 32 (drop (k * 32) parts)))
  elements_inside = subst (Inside ws) (sym parted.plan) (record { each = λ i h. plan-inside ws chosen.0.plan (transition-parts ws net.places (get_or transitions k 0) chosen.0 reads.0 reads.1).plan i (let l = length-map chosen.0.plan (λ (e : Element). e.position) in omega arith) })

  pub restable : Restable ws ps (get_or ws (get_or transitions k 0) 0) (take 32 (drop (k * 32) parts))
  restable = record {
    fits = K.fits;
    few = parted.few;
    long = own-long;
    within = record {
      variables = variables_in (get_or ws (get_or transitions k 0) 0);
      arcs = inputs-stand ws net.places (get_or transitions k 0) chosen.0 reads.0 reads.1 (variables_in (get_or ws (get_or transitions k 0) 0)) parted.variables ps K.placed parted.inputs;
      plan = elements_inside;
    };
  }
