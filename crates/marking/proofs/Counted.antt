-- What holds of a marking that is read by the places of its net: its entries are those that semantics accepts, and their counts are those of a marking.
-- `whole-read` and `marking_proper` of semantics say it.
use mathlib.Core.Path.{◌≡◌}
use mathlib.Core.List.{List, []}
use Prim.Native.Nat.{ℕ}
use Rattle.semantics.specs.Reading.{read}
use Rattle.semantics.specs.Net.{Place, Net}
use Rattle.semantics.specs.Marking.{Entry, Proper, read_marking, counts_of}
use Rattle.semantics.proofs.ReadEntries.{Accepted, whole-read}
use Rattle.semantics.proofs.Markings.{marking_proper}
use Rattle.marking.specs.Marked.{marking_read}

pub entries-accepted : (places : List Place) (ms : List ℕ) (es : List Entry) (next : ℕ) → marking_read places ms ≡ read es next → Accepted places ms [] 0 es next
unfolding marking_read
entries-accepted places ms es next r = whole-read places ms es next r

pub marking_counts : (net : Net) (ms : List ℕ) (es : List Entry) (next : ℕ) → marking_read net.places ms ≡ read es next → Proper net (counts_of es)
unfolding marking_read read_marking
marking_counts net ms es next r = marking_proper net ms es next r
