-- Promise. What the readers of leaves promise where a value stands.
use Rattle.std.specs.Prelude.{◌≡◌, List, ℕ, ◌≤◌, length}
use Rattle.std.proofs.Math.Seq.{slice}
use Rattle.formats.specs.Format.{number, text}
use Rattle.formats.specs.Class.{Class}
use Rattle.formats_read.specs.Promises.Here.{Here}

-- a number that stands at p is n, and ends at e
pub record ReadsNumber (s : List ℕ) (p n e : ℕ) : Type 0 where
  pub value : {m q : ℕ} → Here (number 0 0) s p q m → n ≡ m
  pub next : {m q : ℕ} → Here (number 0 0) s p q m → e ≡ q

-- a text that stands at p is the bytes from a up to e, and ends there
pub record ReadsText (s : List ℕ) (p a e : ℕ) : Type 0 where
  pub bytes : {l : ℕ} {c : Class} {v : List ℕ} {q : ℕ} → Here (text l c) s p q v → slice a e s ≡ v
  pub next : {l : ℕ} {c : Class} {v : List ℕ} {q : ℕ} → Here (text l c) s p q v → e ≡ q
  pub forward : a ≤ e
  pub within : e ≤ length s
