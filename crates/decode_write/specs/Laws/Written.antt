-- Law. What is written for a stop update and for a trip's record, part by part.
use Rattle.std.specs.Prelude.{ℕ, zero, suc, ◌+◌, ◌-◌, ◌*◌, ◌≤◌, ◌<◌, ◌≡◌, refl, Bool, true, false, List, [], ◌∷◌, ◌++◌, ◌⊎◌, length, get_or, take, drop, ℤ, Option, Some, None}
use Rattle.std.proofs.Math.Path.{sym, ap}
use Rattle.std.proofs.Common.{subst, ◌∙◌, append_assoc, arith, add-one, length-drop, get_or-drop, length-take-le}
use Rattle.std.proofs.Math.Seq.{slice}
use Rattle.basics.specs.Lists.{All}
use Rattle.basics.specs.Options.{maybe}
use Rattle.maps.specs.Map.{map_values}
use Rattle.formats.specs.Number.{number_w}
use Rattle.formats.specs.Readers.{many_w}
use Rattle.formats.specs.Format.{◌&◌, write}
use Rattle.formats_write.specs.Laws.Adds.{then, same}
use Rattle.formats_write.specs.Laws.Slices.{slice_is}
use Rattle.formats_write.specs.Promises.Adds.{Adds}
use Rattle.formats_write.specs.Promises.Given.{given_signed, optional_w, text_w}
use Rattle.realtime_views.specs.declared.TextPart.{TextPart}
use Rattle.formats_read.specs.Laws.Progress.{one_more}
use Rattle.realtime.specs.Views.{StopView, TripView}
use Rattle.realtime.specs.Schema.{stop_time_update}
use Rattle.realtime.specs.Schema as schema
use Rattle.realtime_views.specs.declared.StopUpdate as read
use Rattle.realtime_views.specs.Promises.Views.{PartInside, part_in, StopRead, view_stop, view_time}
use Rattle.decode.specs.Record.{bit, update_in}
use Rattle.decode_slots.specs.Index.{Place}
use Rattle.decode_slots.specs.Places.{or_end, update_at}
use Rattle.decode_slots.specs.Promises.Places.{Readable}
use Rattle.decode.specs.Trip.{StopUpdate, number32, stop_update}
use Rattle.decode_write.specs.Promises.Written.{signed_w, event_w, update_of, head_w}
use Rattle.decode_updates.specs.Line.{laid}
use Rattle.decode_updates.specs.Updates.{updates_at}

-- a text of s
pub text_adds : {l m n : List ℕ} {r q k : Option ℕ} (s : List ℕ) (t : TextPart) → PartInside (length s) t
    → Adds l r m q (number_w t.len)
    → (t.start ≤ t.start + t.len → t.start + t.len ≤ length s
    → Adds m q n k (slice t.start (t.start + t.len) s))
    → Adds l r n k (text_w (part_in s t))
text_adds s t h a b =
    let d : t.start + t.len - t.start ≡ t.len = omega arith in
    let e : t.len ≡ length (part_in s t) =
    sym (length-take-le t.len (drop t.start s) (omega (arith, length-drop t.start s))) in
    then (same a (ap number_w e))
    (same (b (omega arith) h)
    (sym (slice_is t.start (t.start + t.len) s (omega arith) h) ∙ ap (λ k. take k (drop t.start s)) d))

-- a flag
pub flag_yes : {l m : List ℕ} {r q : Option ℕ} (b : Bool) → Adds l r m q (1 ∷ []) → b ≡ true
    → Adds l r m q (number_w (bit b))
flag_yes b a e = rw e a

pub flag_no : {l m : List ℕ} {r q : Option ℕ} (b : Bool) → Adds l r m q (0 ∷ []) → b ≡ false
    → Adds l r m q (number_w (bit b))
flag_no b a e = rw e a

-- an optional value, as it was read
pub given_adds : {A : Type 0} {l m : List ℕ} {r q : Option ℕ} (w : A → List ℕ) {u v : Unit {0} ⊎ A}
    → Adds l r m q (optional_w w u) → u ≡ v → Adds l r m q (optional_w w v)
given_adds w a e = same a (ap (optional_w w) e)

pub time_given : (t : Option ℤ) → given_signed t ≡ maybe (view_time t)
time_given None = refl
time_given (Some z) = refl

-- a stop update at its sequence
pub update_adds : {l₀ l₁ l₂ l₃ l₄ l₅ : List ℕ} {r₀ r₁ r₂ r₃ r₄ r₅ : Option ℕ} (n : ℕ) (u : StopView)
    → Adds l₀ r₀ l₁ r₁ (number_w n) → Adds l₁ r₁ l₂ r₂ (text_w u.stop) → Adds l₂ r₂ l₃ r₃ (event_w u.arrival)
    → Adds l₃ r₃ l₄ r₄ (event_w u.departure) → Adds l₄ r₄ l₅ r₅ (number_w (bit u.skipped))
    → Adds l₀ r₀ l₅ r₅ (write (number32 & stop_update) (n, update_of u))
update_adds n u a b c d e =
    same (then (then (then (then a b) c) d) e) (simp append_assoc)

-- what stands at a readable place is what was read of it
module _ {s : List ℕ} {p : Place} {u : read.StopUpdate} (S : StopRead schema.feed s p.0 (p.1 - p.0) u)
    (R : Readable stop_time_update s p) where
  read_update : update_of (view_stop s u) ≡ update_at s p
  unfolding update_at update_in
  read_update = ap update_of (S.of R.message R.read) ∙ sym (ap (λ m. update_in (or_end m)) R.read)

  pub read_update_adds : {l m : List ℕ} {r q : Option ℕ} (n : ℕ)
      → Adds l r m q (write (number32 & stop_update) (n, update_of (view_stop s u)))
      → Adds l r m q (write (number32 & stop_update) (n, update_at s p))
  read_update_adds n a = same a (ap (λ v. write (number32 & stop_update) (n, v)) read_update)

-- a record's part before its updates
pub head_adds : {l₀ l₁ l₂ l₃ l₄ l₅ l₆ : List ℕ} {r₀ r₁ r₂ r₃ r₄ r₅ r₆ : Option ℕ} (t : TripView)
    → Adds l₀ r₀ l₁ r₁ (optional_w signed_w (maybe t.delay)) → Adds l₁ r₁ l₂ r₂ (number_w (bit t.cancelled))
    → Adds l₂ r₂ l₃ r₃ (text_w t.date) → Adds l₃ r₃ l₄ r₄ (text_w t.route)
    → Adds l₄ r₄ l₅ r₅ (optional_w number_w (maybe t.direction)) → Adds l₅ r₅ l₆ r₆ (text_w t.time)
    → Adds l₀ r₀ l₆ r₆ (head_w t)
head_adds t a b c d e f = same (then (then (then (then (then a b) c) d) e) f) (simp append_assoc)

-- one more update
abbrev line_of : List ℕ → ℕ → ℕ × Place
line_of u i = (get_or u (3 * i) 0, (get_or u (3 * i + 1) 0, get_or u (3 * i + 2) 0))

line_behind : (u : List ℕ) (i : ℕ) → line_of (drop 3 u) i ≡ line_of u (suc i)
line_behind u i =
    let a : 3 + 3 * i ≡ 3 * suc i = omega arith in
    let b : 3 + (3 * i + 1) ≡ 3 * suc i + 1 = omega arith in
    let c : 3 + (3 * i + 2) ≡ 3 * suc i + 2 = omega arith in
    rw (get_or-drop 3 u (3 * i) 0, get_or-drop 3 u (3 * i + 1) 0, get_or-drop 3 u (3 * i + 2) 0, a, b, c) refl

laid_more : (i : ℕ) (u : List ℕ) → laid (suc i) u ≡ laid i u ++ (line_of u i ∷ [])
laid_more zero u = refl
laid_more (suc i) u =
    ap (λ l. line_of u 0 ∷ l) (laid_more i (drop 3 u) ∙ ap (λ e. laid i (drop 3 u) ++ (e ∷ [])) (line_behind u i))

pub map_append : {K A B : Type 0} (f : A → B) (l m : List (K × A))
    → map_values f (l ++ m) ≡ map_values f l ++ map_values f m
map_append f [] m = refl
map_append f (e ∷ l) m = ap (λ x. (e.0, f e.1) ∷ x) (map_append f l m)

laid_all : (P : ℕ × Place → Type 0) (n : ℕ) (u : List ℕ) → All P (laid n u) → (i : ℕ) → i < n → P (line_of u i)
laid_all P zero u a i h = absurd (omega arith)
laid_all P (suc n) u a zero h = a.0
laid_all P (suc n) u a (suc i) h =
    subst P (line_behind u i) (laid_all P n (drop 3 u) a.1 i (omega arith))

module _ (s u : List ℕ) where
  abbrev pub updates_w : ℕ → List ℕ
  updates_w i = many_w (write (number32 & stop_update)) (updates_at s (laid i u))

  pub updates_more : {l m n : List ℕ} {r q k : Option ℕ} (i : ℕ) {from to : ℕ} → from ≡ get_or u (3 * i + 1) 0
      → to ≡ get_or u (3 * i + 2) 0 → Adds l r m q (updates_w i)
      → Adds m q n k (write (number32 & stop_update) (get_or u (3 * i) 0, update_at s (from, to)))
      → Adds l r n k (updates_w (i + 1))
  updates_more i {from} {to} e f a b =
      let v : ℕ × StopUpdate = (get_or u (3 * i) 0, update_at s (get_or u (3 * i + 1) 0, get_or u (3 * i + 2) 0)) in
      same (then a (same b (rw (e, f) refl)))
      (one_more (write (number32 & stop_update)) (updates_at s (laid i u)) v
      ∙ ap (many_w (write (number32 & stop_update)))
      (sym (ap (λ k. updates_at s (laid k u)) (add-one i) ∙ ap (updates_at s) (laid_more i u)
      ∙ map_append (update_at s) (laid i u) (line_of u i ∷ []))))

  pub update_readable : {n : ℕ} → All (λ x. Readable stop_time_update s x.1) (laid n u) → (i : ℕ) → i < n
      → {from to : ℕ} → from ≡ get_or u (3 * i + 1) 0 → to ≡ get_or u (3 * i + 2) 0
      → Readable stop_time_update s (from, to)
  update_readable {n} a i h e f = rw (e, f) (laid_all (λ x. Readable stop_time_update s x.1) n u a i h)

  pub updates_done : {l m : List ℕ} {r q : Option ℕ} {i n : ℕ} → i ≤ n → n ≤ i → Adds l r m q (updates_w i)
      → Adds l r m q (updates_w n)
  updates_done {i} {n} h k a = let e : i ≡ n = omega arith in same a (ap updates_w e)
