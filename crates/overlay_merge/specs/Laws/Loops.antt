-- Law. The merge run to count, and run to write.
use Rattle.std.specs.Prelude.{◌≡◌, refl, Bool, true, false, cond, List, [], ◌∷◌, ℕ, ◌+◌, ◌≤◌, ◌<◌, length, Option}
use Rattle.std.proofs.Common.{sym, ◌∙◌, append-nil, arith, length-append}
use Rattle.std.proofs.Math.Seq.{slice}
use Rattle.basics.specs.Laws.Booleans.{false_true}
use Rattle.formats.specs.Readers.{many_w}
use Rattle.formats.specs.Format.{write}
use Rattle.formats_write.specs.Laws.Adds.{none, then, same}
use Rattle.formats_write.specs.Promises.Adds.{Adds}
use Rattle.formats_read.specs.Laws.Progress.{one_more}
use Rattle.formats_read.specs.Laws.Rewriting as rewriting
use Rattle.overlay.specs.State.{vehicle_entry}
use Rattle.overlay_merge.specs.declared.Turn.{Turn}
use Rattle.overlay_merge.specs.Promises.Merge.{Turned, Merge, Counts}
use Rattle.overlay_merge.specs.Promises.Writes.{PutsEntry, Writes}
use Rattle.overlay_merge.specs.Laws.Merge.{begin, onward, ended, most}

-- a test that is true, and one that is not
more_where : (t : Bool) (n : ℕ) → t ≡ true → cond t (n + 1) n ≡ n + 1
more_where t n e = rw e refl

no_more : (t : Bool) (n : ℕ) → t ≡ false → cond t (n + 1) n ≡ n
no_more t n e = rw e refl

pub record Counting (sheet : List ℕ) (a n : ℕ) (old : List ℕ) (b m limit p i q j kept : ℕ) : Type 0 where
  pub merge : Merge sheet a n old b m limit p i q j (λ us. length us ≡ kept)
  pub few : kept ≤ 1024

module _ {sheet : List ℕ} {a n : ℕ} {old : List ℕ} {b m limit : ℕ} where
  pub count_start : Counting sheet a n old b m limit a n b m 0
  count_start = record { merge = begin refl; few = omega arith }

  module _ {p i q j kept : ℕ} (C : Counting sheet a n old b m limit p i q j kept) where
    module _ {t : Turn} {r : ℕ} (U : Turned sheet p i old q j limit t) (e : r ≡ cond t.keep (kept + 1) kept) where
      counted_on : Merge sheet a n old b m limit t.p t.n t.q t.m (λ us. length us ≡ r)
      counted_on =
          onward C.merge U
          (λ us v d h k. length-append us (v ∷ []) ∙ omega (arith, e ∙ more_where t.keep kept k))
          (λ us d k. d ∙ sym (e ∙ no_more t.keep kept k))

      pub count_on : r ≤ 1024 → Counting sheet a n old b m limit t.p t.n t.q t.m r
      count_on h = record { merge = counted_on; few = h }

      pub count_many : 1024 < r → Counts sheet a n old b m limit r
      count_many h = record {
        of = λ xs ys clock z B. let x = most counted_on xs ys clock z B in
            record { few = λ k. absurd (omega arith); many = λ k. omega (arith, x.1, x.2) };
      }

    pub count_end : i + j ≤ 0 → Counts sheet a n old b m limit kept
    count_end z = record {
      of = λ xs ys clock e B.
          record { few = λ k. ended C.merge z xs ys clock e B; many = λ k. absurd (omega (arith, C.few)) };
    }

-- the writing of what was kept so far
pub record Writing (l : List ℕ) (r : Option ℕ) (o : List ℕ) (k : Option ℕ) (sheet : List ℕ) (a n : ℕ) (old : List ℕ)
    (b m limit p i q j : ℕ) : Type 0 where
  pub merge : Merge sheet a n old b m limit p i q j (λ us. Adds l r o k (many_w (write vehicle_entry) us))

module _ {l : List ℕ} {r : Option ℕ} {sheet : List ℕ} {a n : ℕ} {old : List ℕ} {b m limit : ℕ} where
  pub write_start : Writing l r l r sheet a n old b m limit a n b m
  write_start = record { merge = begin none }

  module _ {o : List ℕ} {k : Option ℕ} {p i q j : ℕ} (W : Writing l r o k sheet a n old b m limit p i q j) where
    pub write_on : {t : Turn} {o' : List ℕ} {k' : Option ℕ} → Turned sheet p i old q j limit t
        → PutsEntry o k o' k' sheet old t
        → Writing l r o' k' sheet a n old b m limit t.p t.n t.q t.m
    write_on U P = record {
      merge = onward W.merge U
          (λ us v d h y. same (then d (P.kept v h y)) (one_more (write vehicle_entry) us v))
          (λ us d y. same (then d (P.gone y)) (append-nil (many_w (write vehicle_entry) us)));
    }

    pub write_end : i + j ≤ 0 → Writes l r o k sheet a n old b m limit
    write_end z = record { of = λ xs ys clock e B. ended W.merge z xs ys clock e B }

-- ONE ENTRY: of the sheet, of the feed, or none
module _ {l : List ℕ} {r : Option ℕ} {m : List ℕ} {q : Option ℕ} {sheet old : List ℕ} where
  module _ (t : Turn) where
    pub put_sheet : t.keep ≡ true → t.sheet ≡ true
        → (t.from ≤ t.to → t.to ≤ length sheet → Adds l r m q (slice t.from t.to sheet))
        → PutsEntry l r m q sheet old t
    put_sheet k s g = record {
      kept = λ v h y. rewriting.kept {f = vehicle_entry} {v = v} (rw s at h) g;
      gone = λ y. false_true (sym y ∙ k);
    }

    pub put_old : t.keep ≡ true → t.sheet ≡ false
        → (t.from ≤ t.to → t.to ≤ length old → Adds l r m q (slice t.from t.to old))
        → PutsEntry l r m q sheet old t
    put_old k s g = record {
      kept = λ v h y. rewriting.kept {f = vehicle_entry} {v = v} (rw s at h) g;
      gone = λ y. false_true (sym y ∙ k);
    }

pub put_none : {l : List ℕ} {r : Option ℕ} {sheet old : List ℕ} (t : Turn) → t.keep ≡ false
    → PutsEntry l r l r sheet old t
put_none t k = record { kept = λ v h y. false_true (sym k ∙ y); gone = λ y. none }
