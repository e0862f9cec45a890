-- Law. The length at which a probe's call is asked.
use Rattle.std.specs.Prelude.{◌≡◌, refl, Bool, true, false, cond, List, ℕ, ◌≤◌, ◌<◌, leb}
use Rattle.std.proofs.Common.{arith, leb-true, le-leb}
use Rattle.std.proofs.lemmas.Bool.{lt-leb}
use Rattle.decode.specs.Sizes.{most_old}
use Rattle.overlay.specs.Buffer.{published}
use Rattle.panel.specs.Calls.{Call}
use Rattle.panel.specs.Lengths.{sized}
use Rattle.panel.specs.Given.{Given}
use Rattle.panel_probes.specs.States.{length_of}

pub own_length : (n : ℕ) → n ≤ 111398044 → n ≡ length_of n
own_length n h = rw (le-leb n published h) refl

pub published_length : (n : ℕ) → 111398044 < n → 111398044 ≡ length_of n
published_length n h = rw (lt-leb n published h) refl

pub short_length : (n : ℕ) {k : ℕ} → k ≡ length_of n → k ≤ most_old
short_length n {k} e = go (leb n published) refl e
  where
    go : (b : Bool) → leb n published ≡ b → k ≡ cond b n published → k ≤ most_old
    go true i e = omega (arith, leb-true n published i)
    go false i e = omega arith

pub given_at : {k m : ℕ} {old out : List ℕ} {c : Call} {r : ℕ} {work : List (List ℕ)} → k ≡ m
    → Given (sized k) old c r out work → Given (sized m) old c r out work
given_at e G = rw e at G
