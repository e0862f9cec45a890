-- The end of a field, by what the key and the skipped value answer. Assumes nothing.
use Rattle.std.specs.Prelude.{Some, None}
use Prim.Native.Nat.{ℕ}
use mathlib.Core.Path.{◌≡◌, sym}
use mathlib.Core.List.{List}
use lib.ListN.{drop}
use Rattle.wire.specs.Promises.Places.{key_at, skipped_at}
use Rattle.wire.specs.Laws.At.{place, key_read, key_broken, skipped_read, skipped_broken, field_read, field_broken_key}
use Rattle.wire.specs.Laws.At.{field_broken_value}
use Rattle.wire.specs.declared.Cursor.{Cursor}
use Rattle.wire_probes.specs.Probes.{field_end}

module _ (s : List ℕ) (at : ℕ) where
  pub end_no_key : None ≡ key_at s at → 0 ≡ field_end s at
  end_no_key e = rw (field_broken_key (drop at s) 16 (key_broken s at e))

  module _ (n w : ℕ) (c : Cursor) (e : Some (n, w, c) ≡ key_at s at) where
    pub end_no_value : None ≡ skipped_at s c.at n w 16 → 0 ≡ field_end s at
    end_no_value h =
        rw (field_broken_value s at 16 _ c.at (key_read s at n w c e) (skipped_broken s c.at n w 16 h))

    pub end_past : (d : Cursor) → Some d ≡ skipped_at s c.at n w 16 → d.at ≡ field_end s at
    end_past d h =
        let Q = skipped_read s c.at n w 16 d h in
        rw (field_read s at 16 _ c.at Q.0 d.at (key_read s at n w c e) Q.1)
        (sym (place s d.at Q.1.inside))
