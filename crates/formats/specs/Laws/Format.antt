-- Law. Of every format both round trips, proved once; and a list has no more values than bytes.
use Rattle.std.specs.Prelude.{◌≡◌, refl, List, [], ◌∷◌, ◌++◌, ◌⊎◌, Bool, true, false, ◌||◌, ℕ, ◌≤◌, ◌<◌, length, leb}
use Rattle.std.proofs.Common.{ap, inl, inr, ⊎_elim, arith, length-append, ltb-true}
use Rattle.std.proofs.Math.Option.{Option, none, some}
use Rattle.std.proofs.lemmas.Bool.{false≢true}
use Rattle.formats.specs.Readers.{bytes_r, many_w, many_r}
use Rattle.basics.specs.Lists.{All}
use Rattle.formats.specs.Laws.Law.{Law, empty_law, pair_law, map_law, only_law, const_law, choice_law, bytes_law}
use Rattle.formats.specs.Laws.Law.{many_law, counted_law}
use Rattle.basics.specs.Laws.Options.{none_some}
use Rattle.formats.specs.Number.{zig, zag}
use Rattle.formats.specs.Laws.Number.{number_law, number_some, zag_zig, zig_zag, little_law}
use Rattle.formats.specs.Format.{Format, never, empty, number, signed, small, text, float, constant, list, choice}
use Rattle.formats.specs.Format.{◌&◌, Value, write, takes, read, Fits}
use Rattle.formats.specs.Promises.Outcome.{element}

-- the bytes of a text: one fact over their number
text_law : (n : ℕ) → Law (λ v. v) (bytes_r n) (λ v. (length v ≡ n) × Unit {0})
text_law n = record {
  there = λ v rest h. (bytes_law n).there v rest h.0;
  back = λ s v rest e. let h = (bytes_law n).back s v rest e in (h.0, (h.1, tt));
}

pub law : (f : Format) → Law (write f) (read f) (Fits f)
law never = record { there = λ v rest h. absurd v; back = λ s v rest e. none_some e }
law empty = empty_law
law (number lo hi) = number_law
law (signed lo hi) = map_law zag zig zag_zig zig_zag number_law
law (small k) = only_law (λ n. leb n k) number_law
law (text l c) = counted_law number_law length text_law
law float = little_law 8
law (constant c) = const_law c
law (list l f) = counted_law number_law length (many_law (only_law (takes f) (law f)))
law (choice a b) = choice_law (law a) (law b)
law (a & b) = pair_law (law a) (law b)

pub element_law : (f : Format) → Law (write f) (element f) (λ v. Fits f v × (takes f v ≡ true))
element_law f = only_law (takes f) (law f)

-- both round trips
pub read_write : (f : Format) (v : Value f) (rest : List ℕ) → Fits f v → read f (write f v ++ rest) ≡ some (v, rest)
read_write f = (law f).there

pub write_read : (f : Format) (s : List ℕ) (v : Value f) (rest : List ℕ) → read f s ≡ some (v, rest)
    → (s ≡ write f v ++ rest) × Fits f v
write_read f = (law f).back

-- a list has no more values than bytes: a count above the bytes that are left is never read
taken : (f : Format) (v : List (Value f)) → All (λ x. Fits f x × (takes f x ≡ true)) v
    → length v ≤ length (many_w (write f) v)
taken f [] h = omega arith
taken f (x ∷ v) h = rw length-append (omega (arith, taken f v h.1, ltb-true 0 (length (write f x)) h.0.1))

pub count_over : (f : Format) (n : ℕ) (s : List ℕ) → length s < n → many_r (element f) n s ≡ none
count_over f n s l = go (many_r (element f) n s) refl
  where
    go : (o : Option (List (Value f) × List ℕ)) → many_r (element f) n s ≡ o → o ≡ none
    go none e = refl
    go (some p) e =
        let b = (many_law (element_law f) n).back s p.0 p.1 e in
        absurd (omega
        (arith, taken f p.0 b.1.1, b.1.0, ap length b.0, length-append (many_w (write f) p.0) p.1))

-- a format whose every value takes a byte: what a list is made of
abbrev pub nonempty : Format → Bool
nonempty never = true
nonempty empty = false
nonempty (number lo hi) = true
nonempty (signed lo hi) = true
nonempty (small k) = true
nonempty (text l c) = true
nonempty float = true
nonempty (constant c) = true
nonempty (list l f) = true
nonempty (choice a b) = true
nonempty (a & b) = nonempty a || nonempty b

either : (x y : Bool) → (x || y) ≡ true → (x ≡ true) ⊎ (y ≡ true)
either true y e = inl refl
either false y e = inr e

pub takes_nonempty : (f : Format) (v : Value f) → nonempty f ≡ true → 0 < length (write f v)
takes_nonempty never v e = absurd v
takes_nonempty empty v e = absurd (false≢true e)
takes_nonempty (number lo hi) v e = number_some v
takes_nonempty (signed lo hi) v e = number_some (zig v)
takes_nonempty (small k) v e = number_some v
takes_nonempty (text l c) v e = rw length-append (omega (arith, number_some (length v)))
takes_nonempty float v e = omega arith
takes_nonempty (constant c) v e = omega arith
takes_nonempty (list l f) v e = rw length-append (omega (arith, number_some (length v)))
takes_nonempty (choice a b) (inl v) e = omega arith
takes_nonempty (choice a b) (inr v) e = omega arith
takes_nonempty (a & b) v e =
    rw length-append
    (⊎_elim (λ h. omega (arith, takes_nonempty a v.0 h)) (λ h. omega (arith, takes_nonempty b v.1 h))
    (either (nonempty a) (nonempty b) e))
