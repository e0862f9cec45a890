-- Promise. A pass over a value that is known to stand at a place, and over a record's fields up to one of them.
use Rattle.std.specs.Prelude.{◌≡◌, List, ℕ, ◌+◌, ◌≤◌, Some}
use Rattle.formats.specs.Format.{Format, Value}
use Rattle.formats_read.specs.Promises.Fields.{Has, field_to}
use Rattle.formats_read.specs.Promises.Here.{Here}

-- a value of f that stands at p ends at r
pub record Passes (f : Format) (s : List ℕ) (p r : ℕ) : Type 0 where
  pub to : {v : Value f} {q : ℕ} → Here f s p q v → r ≡ q

-- and it has at most n bytes, so far as r says
pub record PassesNear (n : ℕ) (f : Format) (s : List ℕ) (p r : ℕ) : Type 0 where
  pub passes : Passes f s p r
  pub near : r ≤ p + n

-- field k of a record of f that stands at p is at r
pub record Leads (k : ℕ) (f : Format) (s : List ℕ) (p r : ℕ) : Type 0 where
  pub place : (i : Has k f) {v : Value f} {q : ℕ} → Here f s p q v → field_to k f s p ≡ Some r
