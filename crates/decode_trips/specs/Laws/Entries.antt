-- Law. A slot's entry, and the slots one after the other.
use Rattle.std.specs.Prelude.{ℕ, ◌+◌, ◌*◌, ◌≤◌, ◌≡◌, List, length, get_or, Option}
use Rattle.std.proofs.Common.{arith}
use Rattle.std.proofs.Math.Seq.{slice}
use Rattle.formats.specs.Format.{write}
use Rattle.formats_write.specs.Promises.Adds.{Adds}
use Rattle.formats_write.specs.Promises.Given.{text_w}
use Rattle.decode.specs.Sizes.{key_bytes}
use Rattle.decode.specs.Trip.{trip}
use Rattle.decode_slots.specs.Places.{held_at}
use Rattle.decode_write.specs.Promises.Slots.{GoodSlot}
use Rattle.decode_write.specs.Laws.Records.{entry_adds}
use Rattle.decode_trips.specs.declared.Last.{Last}
use Rattle.decode_trips.specs.Promises.Again.{place_of, Ready, EntryPut}
use Rattle.decode_trips.specs.Laws.Again.{ready_on, ready_new}

module _ {s o keys marks : List ℕ} {j : ℕ} (G : GoodSlot s o keys marks j) {l : List ℕ} {w : Option ℕ} {L : Last}
    (R : Ready s o l w L) {m : List ℕ} {q : Option ℕ} {size : ℕ} (z : size ≡ get_or marks (3 * j) 0)
    (a : key_bytes * j ≤ key_bytes * j + size → key_bytes * j + size ≤ length keys
    → Adds l w m q (text_w (slice (key_bytes * j) (key_bytes * j + size) keys))) where
  pub key_ready : Ready s o m q L
  key_ready = ready_on R (a (omega arith) (omega (arith, G.lies.keyed)))

  pub entry_put : {from to : ℕ} → from ≡ get_or marks (3 * j + 1) 0 → to ≡ get_or marks (3 * j + 2) 0
      → {n : List ℕ} {k : Option ℕ} → Adds m q n k (write trip (held_at s o (from, to)))
      → {st en : ℕ} → st ≡ place_of q → en ≡ place_of k
      → EntryPut s o keys marks j l w n
      (record { put = k; last = record { from = from; to = to; start = st; end = en } })
  entry_put f e b i h = record {
    adds = entry_adds G f e z a b;
    ready = ready_new key_ready b i h;
  }
