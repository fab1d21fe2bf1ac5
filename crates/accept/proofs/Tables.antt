-- An accepted net by the tables of its index: what was read stands there, since reading for positions alone reads the same net. Rests on Checking.
use mathlib.Core.Path.{◌≡◌, sym, ap, ◌∙◌}
use mathlib.Core.List.{List, map}
use Prim.Native.Nat.{ℕ, min}
use native.Mathlib.Omega.{arith}
use lib.ListN.{length, take, length-map, length-take}
use Rattle.semantics.specs.Reading.{read}
use Rattle.semantics.specs.Net.{Transition, Net}
use Rattle.semantics.specs.ReadNet.{read_net}
use Rattle.semantics.specs.Plan.{accept_net}
use Rattle.semantics.proofs.Accepted.{accepted-read}
use Rattle.std.specs.Prelude.{Ok}
use Rattle.net.specs.declared.index.NetIndex.{NetIndex}
use Rattle.net.specs.Skim.{changed, net_outline, width, skim_net}
use Rattle.net.specs.Index.{net_read}
use Rattle.net.specs.Places.{places_at, PlacesFit}
use Rattle.net.proofs.Skimming.{skim_net_lem}
use Rattle.net.proofs.Placed.{index_widths, index-transitions, index-placed, index-fits}
use Rattle.accept.proofs.Checking.{take_least, index_read}

module _ (ws : List ℕ) (i : NetIndex) (x : net_read (Ok i) ≡ changed net_outline (accept_net ws)) where
  pub net : Net
  net = (index_read (accept_net ws) i x).0

  pub is-accepted : accept_net ws ≡ read net i.end
  unfolding net
  is-accepted = (index_read (accept_net ws) i x).1

  pub reads : read_net ws 0 ≡ read net i.end
  reads = accepted-read ws net i.end is-accepted

  skims : net_read (Ok i) ≡ skim_net ws 0
  skims = x ∙ ap (changed net_outline) (is-accepted ∙ sym reads) ∙ skim_net_lem ws 0

  module _ (full : length i.places_at ≡ 64) (wide : length i.widths ≡ 64) where
    -- the first p of a table of 64 are all of its net's, where p is their number
    module _ {p : ℕ} (few : p ≡ min i.places 64) where
      pub placed : net.places ≡ places_at ws (take p i.places_at)
      placed = rw (take_least i.places_at i.places 64 p full few) (index-placed ws i skims full wide net i.end reads)

      pub places-fit : PlacesFit ws (take p i.places_at)
      places-fit = rw (take_least i.places_at i.places 64 p full few) (index-fits ws i skims full wide net i.end reads)

      pub widths_are : take p i.widths ≡ map width net.places
      widths_are = take_least i.widths i.places 64 p wide few ∙ index_widths ws i skims full wide net i.end reads

    module _ (long : length i.transitions_at ≡ 64) {q : ℕ} (less : q ≡ min i.transitions 64) where
      pub stand : take q i.transitions_at ≡ map (λ (t : Transition). t.position) net.transitions
      stand = take_least i.transitions_at i.transitions 64 q long less ∙ index-transitions ws i skims full wide net i.end reads

      pub many : length net.transitions ≡ q
      many =
          let l = sym (length-map net.transitions (λ (t : Transition). t.position)) ∙ ap length (sym stand) ∙ length-take q i.transitions_at in
          omega arith
