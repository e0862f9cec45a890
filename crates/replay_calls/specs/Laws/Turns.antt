-- Law. A script's calls, run one after the other, tell what a replay tells; or the script is none for what is lent.
use Rattle.std.specs.Prelude.{◌≡◌, refl, Bool, true, false, ◌&&◌, List, [], ◌∷◌, ◌++◌, ℕ, suc, ◌+◌, ◌-◌, ◌≤◌, ◌<◌, leb, length, take, Some, None}
use Rattle.std.proofs.Common.{sym, ap₂, ◌∙◌, append_assoc, append-nil, take_at, le-leb, leb-true, leb-false}
use Rattle.std.proofs.Math.Path.{ap}
use Rattle.std.proofs.Math.Bool.{cond}
use Rattle.std.proofs.Math.Option.{Option, none, some}
use native.Mathlib.Omega.{arith}
use Rattle.std.proofs.lemmas.Bool.{lt-leb}
use Rattle.basics.specs.Lists.{all}
use Rattle.basics.specs.Options.{bind_o}
use Rattle.formats.specs.Format.{Value}
use Rattle.formats_write.specs.Promises.Adds.{Adds}
use Rattle.formats_write.specs.Laws.Adds as adds
use Rattle.formats_read.specs.Promises.Lists.{Many}
use Rattle.formats_read.specs.Laws.Walk as walk
use Rattle.panel.specs.Outcome.{refused, accepted, need_some, number_of, bytes_of}
use Rattle.panel.specs.Questions.{Lengths, whole}
use Rattle.panel.specs.Calls.{Call, gives, overlay_after, fresh_overlay, run}
use Rattle.panel.specs.Demand3.{overlay_left}
use Rattle.panel_output.specs.Promises.Ending.{Finished}
use Rattle.panel_output.specs.declared.Ending.TheVariants.{Refused, Written}
use Rattle.replay_script.specs.Script.{call_form, script, call_of, calls_of, standing, size_of, Lent, lends, lent_all}
use Rattle.replay_script.specs.Script.{calls_in}
use Rattle.replay_script.specs.Tells.{telling, tell_all, tells, replay_of, Replays}
use Rattle.replay_script.proofs.Laws.Told.{stands_long, tells_long}
use Rattle.replay_script.specs.Promises.Asked.{Stand, Counted}
use Rattle.replay_turn.specs.Promises.Turns.{Stepped, Turned}
use Rattle.replay_calls.specs.Promises.Turns.{Done, NoScript}

-- ---- one call more

calls_more : (L : Lengths) (us ws : Value script) → calls_of L (us ++ ws) ≡ calls_of L us ++ calls_of L ws
unfolding calls_of
calls_more L [] ws = refl
calls_more L (u ∷ us) ws = ap (λ l. call_of L u ∷ l) (calls_more L us ws)

both_assoc : (a b c : Bool) → (a && (b && c)) ≡ ((a && b) && c)
both_assoc true b c = refl
both_assoc false b c = refl

all_more : {A : Type 0} (f : A → Bool) (xs ys : List A) → all f (xs ++ ys) ≡ (all f xs && all f ys)
all_more f [] ys = refl
all_more f (x ∷ xs) ys = ap (λ b. f x && b) (all_more f xs ys) ∙ both_assoc (f x) (all f xs) (all f ys)

size_more : (cs ds : List Call) → size_of (cs ++ ds) ≡ size_of cs + size_of ds
unfolding size_of
size_more [] ds = omega arith
size_more (c ∷ cs) ds = omega (arith, size_more cs ds)

left_more : (L : Lengths) (old : List ℕ) (cs : List Call) (c : Call)
    → overlay_left L old (cs ++ (c ∷ [])) ≡ overlay_after (overlay_left L old cs) c (gives L (overlay_left L old cs) c)
unfolding overlay_left
left_more L old [] c = refl
left_more L old (d ∷ cs) c = left_more L (overlay_after old d (gives L old d)) cs c

tells_more : (L : Lengths) (old : List ℕ) (cs : List Call) (c : Call)
    → tells L old cs ++ telling c (gives L (overlay_left L old cs) c) ≡ tells L old (cs ++ (c ∷ []))
unfolding tells tell_all run overlay_left
tells_more L old [] c = sym (append-nil (telling c (gives L old c)))
tells_more L old (d ∷ cs) c =
    let rest = tells_more L (overlay_after old d (gives L old d)) cs c in
    append_assoc (telling d (gives L old d)) _ _ ∙ ap (λ l. telling d (gives L old d) ++ l) rest

-- ---- the turns

pub nothing_yet : {L : Lengths} {R : Lent} {out left : List ℕ} → left ≡ fresh_overlay L → Done L R [] out out 0 left
unfolding calls_of tells tell_all run overlay_left
nothing_yet e = record { lent = refl; told = adds.none; after = e }

at_full : {C : Type 0} {p : ℕ} → Some p ≡ None → C
at_full e = absurd (let z : ◌≡◌ {A = ℕ} 0 1 = cc in omega arith)

is_lent : (b : Bool) {p : ℕ} → (b ≡ false → Some p ≡ None) → b ≡ true
is_lent true f = refl
is_lent false f = at_full (f refl)

module _ {L : Lengths} {R : Lent} {out next left : List ℕ} {p : ℕ} (us : Value script) (v : Value call_form)
    (D : Done L R us out next p left) {next' left' : List ℕ} {p' : ℕ}
    (S : Stepped L R (call_of L v) left next p left' next' (Some p')) where
  abbrev cs : List Call
  cs = calls_of L us

  abbrev c : Call
  c = call_of L v

  more_calls : calls_of L (us ++ (v ∷ [])) ≡ cs ++ (c ∷ [])
  unfolding calls_of
  more_calls = calls_more L us (v ∷ [])

  here : lends R c ≡ true
  here = is_lent (lends R c) S.unlent

  abbrev old : List ℕ
  old = overlay_left L (fresh_overlay L) cs

  pub one_more : Done L R (us ++ (v ∷ [])) out next' p' left'
  one_more = record {
    lent = ap (all (lends R)) more_calls ∙ all_more (lends R) cs (c ∷ [])
        ∙ ap₂ (λ a b. a && (b && true)) D.lent here;
    told = adds.same (adds.then D.told (adds.same (S.told here) (ap (λ b. telling c (gives L b c)) D.after)))
        (tells_more L (fresh_overlay L) cs c ∙ ap (tells L (fresh_overlay L)) (sym more_calls));
    after = S.after here ∙ ap (λ b. overlay_after b c (gives L b c)) D.after
        ∙ sym (left_more L (fresh_overlay L) cs c) ∙ ap (overlay_left L (fresh_overlay L)) (sym more_calls);
  }

-- a turn of the loop
pub turn_more : {L : Lengths} {R : Lent} {s out next left next' left' : List ℕ} {a n at rest p p' e : ℕ}
    → walk.Walk call_form s a n at rest (λ us. Done L R us out next p left) → 0 < rest
    → Turned L R s at left next p left' next' (Some p') e
    → walk.Walk call_form s a n e (rest - 1) (λ us. Done L R us out next' p' left')
turn_more {e = e} W z T = walk.onward W e z T.ends (λ us v D h. one_more us v D (T.stepped v e h))

-- ---- the whole

length_telling : (L : Lengths) (old : List ℕ) (c : Call) → length (telling c (gives L old c)) ≡ suc (standing c)
length_telling L old c = ap suc (stands_long L old c)

-- what was told so far ends at p
module _ {L : Lengths} {R : Lent} {us : Value script} {out next left : List ℕ} {p : ℕ}
    (D : Done L R us out next p left) where
  abbrev told_so : List ℕ
  told_so = tells L (fresh_overlay L) (calls_of L us)

  fits : length told_so ≤ length out
  fits = go (leb (length told_so) (length out)) refl
    where
      go : (t : Bool) → leb (length told_so) (length out) ≡ t → length told_so ≤ length out
      go true t = leb-true (length told_so) (length out) t
      go false t = at_full ((adds.wrote D.told).full (leb-false (length told_so) (length out) t))

  ends_at : p ≡ length told_so
  ends_at = let e = (adds.wrote D.told).next fits in cc

  size_so : p ≡ size_of (calls_of L us)
  size_so = ends_at ∙ tells_long L (fresh_overlay L) (calls_of L us)

  stands_so : take p next ≡ told_so
  stands_so =
      ap (take p) ((adds.wrote D.told).holds fits) ∙ take_at told_so _ p (sym ends_at)

module _ (L : Lengths) (R : Lent) (s : List ℕ) (room : L.overlay ≤ R.overlay) (vs : Value script)
    (is : whole script s ≡ some vs) where
  asked : calls_in L R s ≡ lent_all R (calls_of L vs)
  unfolding calls_in
  asked =
      ap (λ o. bind_o o (λ v. cond (leb L.overlay R.overlay) (lent_all R (calls_of L v)) none)) is
      ∙ ap (λ b. cond b (lent_all R (calls_of L vs)) none) (le-leb L.overlay R.overlay room)

  not_all : all (lends R) (calls_of L vs) ≡ false → calls_in L R s ≡ none
  not_all e = asked ∙ ap (λ b. cond (b && leb (size_of (calls_of L vs)) R.output) (some (calls_of L vs)) none) e

  too_long : R.output < size_of (calls_of L vs) → calls_in L R s ≡ none
  too_long h =
      asked ∙ ap (λ b. cond (all (lends R) (calls_of L vs) && b) (some (calls_of L vs)) none)
      (lt-leb (size_of (calls_of L vs)) R.output h) ∙ neither (all (lends R) (calls_of L vs))
    where
      neither : (b : Bool) → cond (b && false) (some (calls_of L vs)) none ≡ none
      neither true = refl
      neither false = refl

  all_lent : all (lends R) (calls_of L vs) ≡ true → size_of (calls_of L vs) ≤ R.output
      → calls_in L R s ≡ some (calls_of L vs)
  all_lent e h =
      asked ∙ ap₂ (λ a b. cond (a && b) (some (calls_of L vs)) none) e (le-leb (size_of (calls_of L vs)) R.output h)

-- THE WHOLE SCRIPT WAS RUN
pub all_told : {L : Lengths} {R : Lent} {s out next left m : List ℕ} {a n p r : ℕ} → L.overlay ≤ R.overlay
    → R.output ≡ length out → (st : Stand s n a) → Done L R st.value out next p left
    → Finished next (Written p) m r → Replays L R s r m
unfolding replay_of
all_told {L} {R} {s} {out} {next} {m = m} {p = p} {r = r} room o st D F =
    let cs = calls_of L st.value in
    let h : size_of cs ≤ R.output = omega (arith, fits D, size_so D, ends_at D, o) in
    let d = all_lent L R s room st.value st.is D.lent h in
    let e : replay_of L R s ≡ accepted (take p next) =
    ap (λ o. need_some o 1 (λ cs. accepted (tells L (fresh_overlay L) cs))) d ∙ ap accepted (sym (stands_so D)) in
    let z : length next ≡ R.output = D.told.size ∙ sym o in
    record { says = F.number ∙ ap number_of (sym e); writes = F.bytes ∙ ap₂ bytes_of z (sym e) }

-- NO SCRIPT FOR WHAT IS LENT
pub none_told : {L : Lengths} {R : Lent} {s l m : List ℕ} {r : ℕ} → NoScript L R s → length l ≡ R.output
    → Finished l (Refused 1) m r → Replays L R s r m
unfolding replay_of
none_told {L} {R} {s} d z F =
    let e : replay_of L R s ≡ refused 1 =
    ap (λ o. need_some o 1 (λ cs. accepted (tells L (fresh_overlay L) cs))) d.is in
    record { says = F.number ∙ ap number_of (sym e); writes = F.bytes ∙ ap₂ bytes_of z (sym e) }

-- which it is not: it has no form,
pub no_form : {L : Lengths} {R : Lent} {s : List ℕ} → Counted s None → NoScript L R s
unfolding calls_in
no_form {L} {R} e = record {
  is = ap (λ o. bind_o o (λ v. cond (leb L.overlay R.overlay) (lent_all R (calls_of L v)) none)) e.so;
}

-- an overlay is not lent,
pub no_overlay : {L : Lengths} {R : Lent} {s : List ℕ} → R.overlay < L.overlay → NoScript L R s
unfolding calls_in
no_overlay {L} {R} {s} h = record { is = go (whole script s) }
  where
    go : (o : Option (Value script))
        → bind_o o (λ v. cond (leb L.overlay R.overlay) (lent_all R (calls_of L v)) none) ≡ none
    go none = refl
    go (some v) = ap (λ b. cond b (lent_all R (calls_of L v)) none) (lt-leb L.overlay R.overlay h)

-- or a call asks for more than is lent
module _ (s : List ℕ) {L : Lengths} {R : Lent} {out next left next' left' : List ℕ} {p : ℕ}
    (room : L.overlay ≤ R.overlay) (o : R.output ≡ length out) (vs us ws : Value script)
    (v : Value call_form) (is : whole script s ≡ some vs)
    (j : us ++ (v ∷ ws) ≡ vs) (D : Done L R us out next p left)
    (S : Stepped L R (call_of L v) left next p left' next' None) where
  abbrev call : Call
  call = call_of L v

  apart : calls_of L vs ≡ calls_of L us ++ (call ∷ calls_of L ws)
  unfolding calls_of
  apart = ap (calls_of L) (sym j) ∙ calls_more L us (v ∷ ws)

  unlent_call : lends R call ≡ false → calls_in L R s ≡ none
  unlent_call e =
      not_all L R s room vs is
      (ap (all (lends R)) apart ∙ all_more (lends R) (calls_of L us) (call ∷ calls_of L ws)
      ∙ ap₂ (λ a b. a && (b && all (lends R) (calls_of L ws))) D.lent e)

  no_room : Adds next (Some p) next' None (telling call (gives L left call)) → length next < p + suc (standing call)
  no_room a = go (leb (p + length x) (length next)) refl
    where
      x : List ℕ
      x = telling call (gives L left call)

      go : (t : Bool) → leb (p + length x) (length next) ≡ t → length next < p + suc (standing call)
      go true t = at_full (sym (a.next p refl (leb-true (p + length x) (length next) t)))
      go false t = omega (arith, leb-false (p + length x) (length next) t, length_telling L left call)

  full_call : lends R call ≡ true → calls_in L R s ≡ none
  unfolding size_of
  full_call e =
      too_long L R s room vs is
      (omega (
        arith,
        ap size_of apart,
        size_more (calls_of L us) (call ∷ calls_of L ws),
        no_room (S.told e),
        size_so D,
        D.told.size,
        o,
      ))

  pub stopped : calls_in L R s ≡ none
  stopped = go (lends R call) refl
    where
      go : (t : Bool) → lends R call ≡ t → calls_in L R s ≡ none
      go true t = full_call t
      go false t = unlent_call t

pub turn_full : {L : Lengths} {R : Lent} {s out next left next' left' : List ℕ} {a n at rest p e : ℕ}
    → L.overlay ≤ R.overlay → R.output ≡ length out → (st : Stand s n a)
    → walk.Walk call_form s a n at rest (λ us. Done L R us out next p left) → 0 < rest
    → Turned L R s at left next p left' next' None e → NoScript L R s
turn_full {L} {R} {s} {out} {next} {left} {next'} {left'} {at = at} {rest = rest} {p = p} {e = e} room o st W z T =
    let A = W.at st.value (length s) st.count st.many in
    record { is = go A.behind A.ahead A.joined A.count A.stand A.so }
  where
    go : (us ws : Value script) → us ++ ws ≡ st.value → length ws ≡ rest → Many call_form s at (length s) ws
        → Done L R us out next p left → calls_in L R s ≡ none
    go us [] j c m D = absurd (omega arith)
    go us (v ∷ ws) j c m D = stopped s room o st.value us ws v st.is j D (T.stepped v m.0 m.1)
