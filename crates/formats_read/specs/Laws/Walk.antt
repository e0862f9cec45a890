-- Law. A loop over the values of one format that stand one after another: what it has done for the values behind it,
-- and what is still ahead.
use Rattle.std.specs.Prelude.{◌≡◌, refl, List, [], ◌∷◌, ◌++◌, ℕ, ◌-◌, ◌≤◌, ◌<◌, length}
use Rattle.std.proofs.Common.{sym, ◌∙◌, append_assoc, append-nil, arith}
use Rattle.formats.specs.Format.{Format, list, Value}
use Rattle.formats_read.specs.Promises.Here.{Here}
use Rattle.formats_read.specs.Laws.Lists.{listed}
use Rattle.formats_read.specs.Promises.Lists.{Many}
use Rattle.formats_read.specs.Promises.Reads.{ReadsNumber}

-- at p, with the values `behind` done and `ahead` to come
pub record At (f : Format) (s : List ℕ) (q : ℕ) (vs : List (Value f)) (p left : ℕ) (done : List (Value f) → Type 0) :
    Type 0 where
  pub behind : List (Value f)
  pub ahead : List (Value f)
  pub joined : behind ++ ahead ≡ vs
  pub count : length ahead ≡ left
  pub stand : Many f s p q ahead
  pub so : done behind

-- a loop over n values from a on is at p, and `left` are left
pub record Walk (f : Format) (s : List ℕ) (a n p left : ℕ) (done : List (Value f) → Type 0) : Type 0 where
  pub at : (vs : List (Value f)) (q : ℕ) → length vs ≡ n → Many f s a q vs → At f s q vs p left done

at_next : (f : Format) (s : List ℕ) (q : ℕ) (vs : List (Value f)) (p e left : ℕ) (done next : List (Value f) → Type 0)
    (us ws : List (Value f)) → us ++ ws ≡ vs → length ws ≡ left → Many f s p q ws → done us
    → 0 < left → ((v : Value f) (q : ℕ) → Here f s p q v → e ≡ q)
    → ((us : List (Value f)) (v : Value f) → done us → Here f s p e v → next (us ++ (v ∷ [])))
    → At f s q vs e (left - 1) next
at_next f s q vs p e left done next us [] j c m d z ends turn = absurd (omega arith)
at_next f s q vs p e left done next us (w ∷ ws) j c m d z ends turn =
    let i : e ≡ m.0 = ends w m.0 m.1 in
    record {
      behind = us ++ (w ∷ []);
      ahead = ws;
      joined = append_assoc us (w ∷ []) ws ∙ j;
      count = omega arith;
      stand = rw i m.2;
      so = turn us w d (rw i m.1);
    }

at_end : (f : Format) (vs : List (Value f)) (done : List (Value f) → Type 0) (us ws : List (Value f)) → us ++ ws ≡ vs
    → length ws ≡ 0 → done us → done vs
at_end f vs done us [] j c d = rw (← j, append-nil us) d
at_end f vs done us (w ∷ ws) j c d = absurd (omega arith)

module _ {f : Format} {s : List ℕ} {a n : ℕ} where
  pub begin : {done : List (Value f) → Type 0} → done [] → Walk f s a n a n done
  begin d = record { at = λ vs q c m. record { behind = []; ahead = vs; joined = refl; count = c; stand = m; so = d } }

  module _ {p left : ℕ} {done : List (Value f) → Type 0} (W : Walk f s a n p left done) where
    pub onward : {next : List (Value f) → Type 0} (e : ℕ) → 0 < left → ((v : Value f) (q : ℕ) → Here f s p q v → e ≡ q)
        → ((us : List (Value f)) (v : Value f) → done us → Here f s p e v → next (us ++ (v ∷ [])))
        → Walk f s a n e (left - 1) next
    onward {next} e z ends turn = record {
      at = λ vs q c m.
          let A = W.at vs q c m in
          at_next f s q vs p e left done next A.behind A.ahead A.joined A.count A.stand A.so z ends
          turn;
    }

    pub ended : left ≤ 0 → (vs : List (Value f)) (q : ℕ) → length vs ≡ n → Many f s a q vs → done vs
    ended z vs q c m = let A = W.at vs q c m in
        at_end f vs done A.behind A.ahead A.joined (A.count ∙ omega arith) A.so

-- a list, whose count stands before its values
pub of_list : {f : Format} {s : List ℕ} {p q n e c : ℕ} {vs : List (Value f)} {P : List (Value f) → Type 0}
    → Here (list c f) s p q vs → ReadsNumber s p n e
    → ((us : List (Value f)) (q : ℕ) → length us ≡ n → Many f s e q us → P us) → P vs
of_list {q} {vs} h N a =
    let x = (listed h).1 in
    let y = N.next x.count in
    a vs q (sym (N.value x.count)) (rw y x.values)
