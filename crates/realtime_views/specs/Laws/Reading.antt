-- Law. The front of a message reads as a message.
use Rattle.std.specs.Prelude.{ℕ, ◌+◌, ◌-◌, ◌≤◌, ◌≡◌, List, length, take, drop}
use Rattle.std.proofs.Common.{sym, ap, ◌∙◌, arith, length-take, take-add, take-take, drop_at}

-- a part of the first n bytes is a part of all
pub front_part : (s : List ℕ) (n i l : ℕ) → i + l ≤ n → n ≤ length s → take l (drop i (take n s)) ≡ take l (drop i s)
front_part s n i l h h' =
    let e : n ≡ i + (n - i) = omega arith in
    ap (λ k. take l (drop i (take k s))) e ∙ ap (λ x. take l (drop i x)) (take-add i (n - i) s)
    ∙ ap (take l) (drop_at (take i s) (take (n - i) (drop i s)) i (length-take i s ∙ omega arith))
    ∙ take-take l (n - i) (drop i s) (omega arith)

-- and where it ends at n, what stands there from i on
pub front_rest : (s : List ℕ) (n i l : ℕ) → i + l ≡ n → n ≤ length s → drop i (take n s) ≡ take l (drop i s)
front_rest s n i l e h =
    ap (λ k. drop i (take k s)) (sym e) ∙ ap (drop i) (take-add i l s)
    ∙ drop_at (take i s) (take l (drop i s)) i (length-take i s ∙ omega arith)
