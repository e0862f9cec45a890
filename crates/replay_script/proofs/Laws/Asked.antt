-- Law. What the readers of a script find, put together.
use Rattle.std.specs.Prelude.{◌≡◌, ℕ, zero, suc, ◌+◌, ◌≤◌, ◌<◌, length, get_or, Option, Some, None}
use Rattle.std.proofs.Math.Path.{refl, sym, ap}
use Rattle.std.proofs.Common.{◌∙◌, arith, length-append}
use mathlib.Core.List.{List, [], ◌∷◌, ◌++◌}
use Rattle.std.proofs.Math.Option.{Option as LogicOption, none, some}
use Rattle.formats.specs.Format.{Format, Value, read, write}
use Rattle.formats.specs.Laws.Format.{law}
use Rattle.formats.specs.Promises.Outcome.{skipped, skip_to}
use Rattle.formats.specs.declared.Span.{Span}
use Rattle.formats_read.specs.Promises.Fields.{Has}
use Rattle.formats_read.specs.Promises.Here.{Here, Field}
use Rattle.formats_read.specs.Promises.Lists.{Many, Reaches}
use Rattle.formats_read.specs.Promises.Reads.{ReadsNumber, ReadsText}
use Rattle.formats_read.specs.Laws.Here.{halves, number_here, small_here, whole_here}
use Rattle.formats_read.specs.Laws.Lists.{listed}
use Rattle.panel.specs.Questions.{ended_only, whole}
use Rattle.replay_script.specs.Script.{call_form, length_form, lengths_form, script}
use Rattle.replay_script.specs.Promises.Asked.{ReadsCall, ReadsLength, Stand, Counted}

-- ---- a call

-- where field k of the call at p is
abbrev pub Places : ℕ → List ℕ → ℕ → ℕ → Type 0
Places k s p m =
    (i : Has k call_form) (v : Value call_form) (q : ℕ) → Here call_form s p q v → Field k call_form i s p q v m

pub call_read : {s : List ℕ} {p kind : ℕ} (feed input : Span) {clock out work next f b o e g : ℕ}
    → Places 1 s p f → ReadsText s f feed.from feed.to → Places 2 s p b
    → ReadsText s b input.from input.to → Places 5 s p work → ReadsNumber s p kind e
    → Places 3 s p clock → Places 4 s p o → ReadsNumber s o out g
    → ((v : Value lengths_form) (q : ℕ) → Here lengths_form s work q v → next ≡ q)
    → ReadsCall s p (record {
      kind = kind;
      feed = feed;
      input = input;
      clock = clock;
      out = out;
      work = work;
      next = next;
    })
call_read feed input F f B b W k C O o n = record {
  of = λ {v} {q} h. record {
    kind = k.value (small_here (halves h).first);
    feed = f.bytes (halves (F tt v q h).here).first;
    input = b.bytes (halves (B tt v q h).here).first;
    clock = (_, (halves (C tt v q h).here).first);
    out = o.value (number_here (halves (O tt v q h).here).first);
    work = (W tt v q h).here;
    next = n _ q (W tt v q h).here;
  };
  feed_forward = f.forward;
  feed_within = f.within;
  input_forward = b.forward;
  input_within = b.within;
}

-- ---- the length i of its working buffers

get_d_behind : (us ws : List ℕ) (i : ℕ) → length us ≡ i → get_or (us ++ ws) i 0 ≡ get_or ws 0 0
get_d_behind [] ws i e = ap (λ n. get_or ws n 0) (sym e)
get_d_behind (u ∷ us) ws i e = rw (← e) (get_d_behind us ws (length us) refl)

nothing_there : (w : List ℕ) (i : ℕ) → length w ≤ i → 0 ≡ get_or w i 0
nothing_there [] i h = refl
nothing_there (x ∷ w) zero h = absurd (omega arith)
nothing_there (x ∷ w) (suc i) h = nothing_there w i (omega arith)

first_behind : {s : List ℕ} {m r g : ℕ} → ReadsNumber s m r g → (q : ℕ) (back : List ℕ) → Many length_form s m q back
    → 0 < length back → r ≡ get_or back 0 0
first_behind R q [] M h = absurd (omega arith)
first_behind R q (x ∷ back) M h = R.value (number_here M.1)

module _ {s : List ℕ} {p n e i : ℕ} (N : ReadsNumber s p n e) where
  pub length_missing : n ≤ i → ReadsLength s p i 0
  length_missing h = record {
    of = λ {w} {q} d.
        let x = (listed d).1 in
        nothing_there w i (omega (arith, N.value x.count));
  }

  pub length_found : {m r g : ℕ} → i < n → Reaches length_form s e i m → ReadsNumber s m r g → ReadsLength s p i r
  length_found {m} {r} {g} h S R = record {
    of = λ {w} {q} d.
        let x = (listed d).1 in
        let y = N.next x.count in
        let c = N.value x.count in
        let few : i ≤ length w = omega arith in
        let t = S.splits w q few (rw y x.values) in
        let a = ap length t.joined in
        let l : 0 < length t.back = omega (arith, length-append t.front t.back, a, t.count, c, h) in
        first_behind R q t.back t.ahead l ∙ sym (get_d_behind t.front t.back i t.count)
        ∙ ap (λ l. get_or l i 0) t.joined;
  }

-- ---- a script

rest_within : (g : Format) (s : List ℕ) (v : Value g) (t : List ℕ) → read g s ≡ some (v, t) → length t ≤ length s
rest_within g s v t e = let b = ((law g).back s v t e).0 in omega (arith, ap length b, length-append (write g v) t)

at_at : {p q : ℕ} → Some p ≡ Some q → p ≡ q
at_at e = cc

at_broken : {C : Type 0} {p : ℕ} → Some p ≡ None → C
at_broken e = absurd (let z : ◌≡◌ {A = ℕ} 0 1 = cc in omega arith)

module _ (s : List ℕ) {r : Option ℕ} (j : r ≡ skip_to script s 0) where
  pub script_broken : r ≡ None → Counted s None
  unfolding whole
  script_broken e = record { so = go (read script s) (sym j ∙ e) }
    where
      go : (o : LogicOption (Value script × List ℕ)) → skipped s o ≡ None → ended_only o ≡ none
      go none h = refl
      go (some x) h = at_broken h

  pub script_short : {p : ℕ} → r ≡ Some p → p < length s → Counted s None
  unfolding whole
  script_short {p} e l = record { so = go (read script s) (sym j ∙ e) }
    where
      go : (o : LogicOption (Value script × List ℕ)) → skipped s o ≡ Some p → ended_only o ≡ none
      go none h = refl
      go (some (v, [])) h = absurd (omega (arith, at_at h))
      go (some (v, b ∷ t)) h = refl

  pub script_at : {p n e : ℕ} → r ≡ Some p → length s ≤ p → ReadsNumber s 0 n e → Counted s (Some (n, e))
  unfolding whole
  script_at {p} {n} {e} d l N = record { so = go (read script s) refl (sym j ∙ d) }
    where
      go : (o : LogicOption (Value script × List ℕ)) → read script s ≡ o → skipped s o ≡ Some p → Stand s n e
      go none k h = at_broken (sym h)
      go (some (v, [])) k h =
          let x = (listed (whole_here script s v k)).1 in
          let y = N.next x.count in
          record {
            value = v;
            is = ap ended_only k;
            count = sym (N.value x.count);
            many = rw y x.values;
          }
      go (some (v, b ∷ t)) k h = absurd (omega (arith, at_at h, rest_within script s v (b ∷ t) k))
