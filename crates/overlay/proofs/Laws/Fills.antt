-- Law. A value that keeps its format's annotations and whose writing is as long as any, by its parts.
use Rattle.std.specs.Prelude.{◌≡◌, refl, true, List, ℕ, ◌^◌, ◌≤◌, ◌<◌, length}
use Rattle.std.proofs.Common.{inr, arith, length-append, le-leb, lt-ltb}
use Rattle.formats.specs.Class.{Class, in_class}
use Rattle.basics.specs.Lists.{all}
use Rattle.formats.specs.Format.{Format, number, text, list, optional, ◌&◌, Value, write, takes, Fits}
use Rattle.formats_judge.specs.Judged.{ok}
use Rattle.formats_capacity.specs.Laws.Capacity.{Keeps, capacity, size, attained}
use Rattle.formats_capacity.proofs.Laws.Capacity.{size_mono, capacity_met}
use Rattle.overlay.proofs.Laws.Within.{keeps, both}
use Rattle.overlay.proofs.Laws.Table.{table, table_length, table_all, table_every, table_many}

pub record Fills (f : Format) (v : Value f) : Type 0 where
  pub fits : Fits f v
  pub keeps : Keeps f v
  pub long : length (write f v) ≡ capacity f

-- a value of a format whose limits can be met at once
abbrev pub most : (f : Format) → attained f ≡ true → Value f
most f e = (capacity_met f e).value

pub most_fills : (f : Format) (e : attained f ≡ true) → Fills f (most f e)
most_fills f e = let m = capacity_met f e in record { fits = m.fits; keeps = m.keeps; long = m.long }

-- a number from m on, where m takes as many bytes as the greatest; and the greatest
pub number_fills : (hi m n : ℕ) → hi < 2 ^ 64 → m ≤ n → n ≤ hi → size m ≡ size hi → Fills (number 0 hi) n
number_fills hi m n h a b e = record {
  fits = omega arith;
  keeps = keeps (number 0 hi) n refl (both (le-leb 0 n (omega arith)) (le-leb n hi b)) refl;
  long = omega (arith, size_mono m n a, size_mono n hi b, e);
}

pub greatest_fills : (hi : ℕ) → hi < 2 ^ 64 → Fills (number 0 hi) hi
greatest_fills hi h = number_fills hi hi hi h (omega arith) (omega arith) refl

pub text_fills : (l : ℕ) (c : Class) (v : List ℕ) → l < 2 ^ 64 → length v ≡ l → in_class c v ≡ true → Fills (text l c) v
text_fills l c v h e i = record {
  fits = (rw e h, tt);
  keeps = keeps (text l c) v (both (le-leb (length v) l (omega (arith, e))) i) refl refl;
  long = rw (length-append, e) refl;
}

pub given_fills : {f : Format} {v : Value f} → Fills f v → Fills (optional f) (inr v)
given_fills {f} {v} w =
    record {
      fits = w.fits;
      keeps = w.keeps;
      long = rw (le-leb 0 (capacity f) (omega arith)) (omega (arith, w.long));
    }

pub pair_fills : {a b : Format} {x : Value a} {y : Value b} → Fills a x → Fills b y → Fills (a & b) (x, y)
pair_fills {a} {b} {x} {y} v w = record {
  fits = (v.fits, w.fits);
  keeps = λ q l m. both (v.keeps q l m) (w.keeps q l m);
  long = rw (length-append, v.long, w.long) refl;
}

pub table_fills : (f : Format) (g : ℕ → Value f) (n : ℕ) → n < 2 ^ 64 → 0 < capacity f
    → ((j : ℕ) → j < n → Fills f (g j)) → Fills (list n f) (table g 0 n)
table_fills f g n h c w =
    let s : length (table g 0 n) ≡ n = table_length g 0 n in
    record {
      fits = (
        rw s h,
        table_every g (λ x. Fits f x × (takes f x ≡ true)) n
            (λ j l. ((w j l).fits, rw (w j l).long (lt-ltb 0 (capacity f) c))) 0 n (omega arith),
      );
      keeps = keeps (list n f) (table g 0 n) (kept 5 (omega arith) (omega arith)) (kept 6 (omega arith) (omega arith))
          (both (le-leb (length (table g 0 n)) n (omega (arith, s))) (kept 7 (omega arith) (omega arith)));
      long = rw (length-append, s, table_many g (write f) (capacity f) n (λ j l. (w j l).long) 0 n (omega arith)) refl;
    }
  where
    kept : (q : ℕ) → 5 ≤ q → q ≤ 7 → all (ok q f) (table g 0 n) ≡ true
    kept q a b = table_all g (ok q f) n (λ j l. (w j l).keeps q a b) 0 n (omega arith)
