-- Law. What a call gives is exactly as long as its buffer, refused or accepted.
use Rattle.std.specs.Prelude.{ℕ, ◌≤◌, ◌≡◌, refl, List, length}
use Rattle.std.proofs.lemmas.List.{length-replicate}
use Rattle.overlay.proofs.Laws.Buffer.{filled_length}
use Rattle.panel.specs.Outcome.{Outcome, refused, accepted, bytes_of}
use Rattle.panel.specs.Questions.{Lengths}
use Rattle.panel.specs.Calls.{Call, ends, out_of, gives}
use Rattle.panel.proofs.Laws.History.{accepted_right, book_of}

bytes_long : (n : ℕ) (o : Outcome) → ((x : List ℕ) → o ≡ accepted x → length x ≤ n) → length (bytes_of n o) ≡ n
bytes_long n (refused k) h = length-replicate n 0
bytes_long n (accepted x) h = filled_length n x (h x refl)

-- EVERY OUTPUT IS AS LONG AS ITS BUFFER
pub out_long : (L : Lengths) (old : List ℕ) (c : Call) → length (gives L old c).out ≡ out_of c
out_long L old c = bytes_long (out_of c) (ends L old c) (λ x e.
    let b = book_of old in
    (accepted_right L old c b.book b.holds e).short)
