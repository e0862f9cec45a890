-- Law. A message that gained fields has the tree that it had.
use Rattle.std.specs.Prelude.{ℕ, ◌≡◌, refl, List, [], ◌++◌, length}
use Rattle.std.proofs.Common.{sym, ap, ◌∙◌, arith, length-append, take_at, drop_at, le-leb}
use Rattle.wire.specs.Wire.{read, varint, key, bytes, length_delimited, LEN, field}
use Rattle.wire.specs.Laws.Wire.{longer, reader_varint, reader_key}
use Rattle.wire.specs.Laws.Values.{value_2}
use Rattle.realtime.specs.Tree.{Schema, tree, add_field}
use Rattle.realtime.proofs.Laws.Tree.{tree_step, tree_front}
use Rattle.realtime.specs.Gains.{KeyOf, LengthOf, Gains, same, keep, gain, inside}

-- a key, a length and as many bytes in front are a field
pub text_front : (n : ℕ) (k l p a : List ℕ) → KeyOf k n → LengthOf l p
    → field 16 (k ++ (l ++ (p ++ a))) ≡ read (record { number = n; value = LEN p }) a
unfolding field length_delimited bytes
text_front n k l p a K L =
    rw (
      longer key reader_key k (record { number = n; wire = 2 }) [] (l ++ (p ++ a)) K,
      value_2 16 n (l ++ (p ++ a)),
      longer varint reader_varint l (length p) [] (p ++ a) L,
      le-leb (length p) (length (p ++ a)) (omega (arith, length-append p a)),
      take_at p a (length p) refl,
      drop_at p a (length p) refl,
    )

-- THE LAW OF GAINED FIELDS: the tree stays as it is, and what was broken stays broken
pub gains_same_tree : {σ : Schema} {t : ℕ} {x y : List ℕ} → Gains σ t x y → tree σ t y ≡ tree σ t x
gains_same_tree same = refl
gains_same_tree {σ} {t} (keep {a = a} {b = b} f x w g) =
    tree_front σ t f x b w ∙ ap (add_field (tree σ) (σ t x.number) x) (gains_same_tree g)
    ∙ sym (tree_front σ t f x a w)
gains_same_tree {σ} {t} (gain {b = b} f x w h g) =
    tree_front σ t f x b w ∙ ap (λ k. add_field (tree σ) k x (tree σ t b)) h ∙ gains_same_tree g
gains_same_tree {σ} {t} (inside {a = a} {b = b} n u k l l' p p' K L L' h g g') =
    tree_step σ t _ _ b (text_front n k l' p' b K L')
    ∙ ap (λ j. add_field (tree σ) j (record { number = n; value = LEN p' }) (tree σ t b)) h
    ∙ rw (gains_same_tree g, gains_same_tree g')
    (ap (λ j. add_field (tree σ) j (record { number = n; value = LEN p }) (tree σ t a)) (sym h))
    ∙ sym (tree_step σ t _ _ a (text_front n k l p a K L))
