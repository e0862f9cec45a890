-- Law. The writing of a state with one feed put: what stands before its body, the body, and what follows it.
use Rattle.std.specs.Prelude.{◌≡◌, List, ◌∷◌, ◌++◌, ℕ, ◌≤◌, length, Option}
use Rattle.std.proofs.Common.{sym, ◌∙◌, append_assoc, arith, length-append, take_all}
use Rattle.std.proofs.Math.Path.{ap}
use Rattle.std.proofs.Math.Seq.{slice, length-slice}
use Rattle.formats.specs.Readers.{many_w}
use Rattle.formats.specs.Number.{number_w}
use Rattle.formats.specs.Format.{Format, Value, write}
use Rattle.formats_write.specs.Laws.Adds.{then, same}
use Rattle.formats_write.specs.Promises.Adds.{Adds}
use Rattle.formats_write.specs.Promises.Given.{text_w}
use Rattle.formats_read.specs.Laws.Lists.{run, many_append}
use Rattle.formats_read.specs.Promises.Lists.{Many}
use Rattle.maps.specs.Map.{put}
use Rattle.maps.specs.Order.{texts}
use Rattle.overlay.specs.State.{Feed, State, feed, feed_entry, overlay, feeds_of}
use Rattle.overlay.specs.Change.{put_feed}
use Rattle.overlay_feeds.specs.Promises.Head.{ReadsHead}
use Rattle.overlay_frame.specs.Promises.Frame.{Spot, head_w, opening_w, closing_w}

-- values that stand up to one place begin at one place
same_start : (f : Format) (s : List ℕ) (p o q : ℕ) (vs : List (Value f)) → Many f s p q vs → Many f s o q vs → p ≡ o
same_start f s p o q vs h k =
    let x = run f s p q vs h in
    let y = run f s o q vs k in
    let e : length (slice p q s) ≡ length (slice o q s) = ap length (x.written ∙ sym y.written) in
    omega (arith, e, length-slice p q s x.within, length-slice o q s x.within, x.forward, y.forward)

regroup : (a n m t d e : List ℕ)
    → ((((1 ∷ (a ++ n)) ++ m) ++ t) ++ d) ++ e ≡ 1 ∷ (a ++ (n ++ (m ++ ((t ++ d) ++ e))))
regroup a n m t d e = simp append_assoc

module _ {b : List ℕ} {q : ℕ} {s : State} {f : List ℕ} {from to count : ℕ} (S : Spot b q s f from to count) where
  -- before the body
  pub opened : (v : ℕ) {w c n first : ℕ} {l m o i : List ℕ} {r k j z : Option ℕ} → ReadsHead b w c n first
      → Adds l r m k (head_w v count)
      → (first ≤ from → from ≤ length b → Adds m k o j (slice first from b))
      → (0 ≤ length f → length f ≤ length f → Adds o j i z (text_w (slice 0 (length f) f)))
      → Adds l r i z (opening_w v count S.front f)
  opened v {first} {m} {o} {k} {j} N a g t =
      let e : first ≡ S.first =
      same_start feed_entry b first S.first q (feeds_of s) (N.to S.whole).feeds_here S.listed in
      let x = run feed_entry b S.first from S.front S.before in
      let y : Adds m k o j (many_w (write feed_entry) S.front) =
      same (g (omega (arith, x.forward)) x.within) (ap (λ p. slice p from b) e ∙ x.written) in
      let u : slice 0 (length f) f ≡ f = take_all (length f) f (omega arith) in
      then (then a y) (same (t (omega arith) (omega arith)) (ap text_w u))

  -- behind it
  pub closed : {l m : List ℕ} {r k : Option ℕ} → (to ≤ q → q ≤ length b → Adds l r m k (slice to q b))
      → Adds l r m k (closing_w S.back)
  closed g = let x = run feed_entry b to q S.back S.behind in same (g x.forward x.within) x.written

  pub count_is : (F : Feed) → length (put texts f F (feeds_of s)) ≡ count
  count_is F =
      ap length (S.puts F) ∙ length-append S.front ((f, F) ∷ S.back) ∙ omega (arith, S.many)

  -- A STATE WITH ONE FEED PUT
  pub framed : (v : ℕ) (F : Feed) {l m o i : List ℕ} {r k j z : Option ℕ} → Adds l r m k (opening_w v count S.front f)
      → Adds m k o j (write feed F) → Adds o j i z (closing_w S.back)
      → Adds l r i z (write overlay (put_feed f F v s))
  unfolding put_feed
  framed v F a d g =
      same (then (then a d) g)
      (regroup (number_w v) (number_w count) (many_w (write feed_entry) S.front) (text_w f) (write feed F)
      (closing_w S.back)
      ∙ ap (λ l. 1 ∷ (number_w v ++ (number_w count ++ l)))
      (sym (many_append (write feed_entry) S.front ((f, F) ∷ S.back)))
      ∙ ap (λ fs. 1 ∷ (number_w v ++ (number_w count ++ many_w (write feed_entry) fs))) (sym (S.puts F))
      ∙ ap (λ n. 1 ∷ (number_w v ++ (number_w n ++ many_w (write feed_entry) (put texts f F (feeds_of s)))))
      (sym (count_is F)))
