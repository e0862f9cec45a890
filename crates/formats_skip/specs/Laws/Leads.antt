-- Law. How passes lead to a field of a record, and from a field to the record's end.
use Rattle.std.specs.Prelude.{◌≡◌, refl, List, ℤ, ℕ, suc, Some}
use Rattle.std.proofs.Common.{sym, ap, ◌∙◌}
use Rattle.formats.specs.Class.{Class, any}
use Rattle.formats.specs.Format.{Format, number, signed, small, text, list, optional, ◌&◌, Value}
use Rattle.formats_read.specs.Promises.Fields.{part, Has, onward, field_to}
use Rattle.formats_read.specs.Promises.Here.{Here, Field}
use Rattle.formats_read.specs.Laws.Here.{field, halves, passed}
use Rattle.formats_skip.specs.Promises.Passes.{Passes, Leads}
use Rattle.formats_skip.specs.Laws.Passes.{any_number, any_signed, any_small, any_text, any_texts}
use Rattle.formats_skip.specs.Laws.Passes.{any_optional_number, any_optional_signed, any_optional_text}

-- the field that stands there
pub lead_field : {k : ℕ} {f : Format} {s : List ℕ} {p r : ℕ} → Leads k f s p r → (i : Has k f) {v : Value f} {q : ℕ}
    → Here f s p q v → Field k f i s p q v r
lead_field {k} {f} {r} L i h =
    let x = field k f i h in
    let y = x.2 in
    let z = L.place i h in
    let w : x.0 ≡ r = cc in
    rw w at x.1

pub lead_here : {f : Format} {s : List ℕ} {p : ℕ} → Leads 0 f s p p
lead_here = record { place = λ i h. refl }

module _ {s : List ℕ} {p m r : ℕ} where
  -- past the fields in front
  pub lead_past : (k : ℕ) {a b : Format} → Passes a s p m → Leads k b s m r → Leads (suc k) (a & b) s p r
  lead_past k {a} {b} P L = record {
    place = λ i {v} {q} h.
        let x = halves h in
        let e = P.to x.first in
        ap (λ o. onward o (λ n. field_to k b s n)) (passed x.first ∙ ap Some (sym e))
        ∙ L.place i {v = v.1} {q = q} (rw e x.second);
  }

-- and from the field on to the end
pub lead_end : (k : ℕ) {f : Format} {s : List ℕ} {p m r : ℕ} → Leads k f s p m → Has k f → Passes (part k f) s m r
    → Passes f s p r
lead_end k L i P = record { to = λ h. P.to (lead_field L i h).here }

-- past a leaf of any bounds
module _ (k : ℕ) {s : List ℕ} {p m r : ℕ} {b : Format} (L : Leads k b s m r) where
  pub lead_number : {lo hi : ℕ} → Passes (number 0 0) s p m → Leads (suc k) (number lo hi & b) s p r
  lead_number P = lead_past k (any_number P) L

  pub lead_signed : {lo hi : ℤ} → Passes (number 0 0) s p m → Leads (suc k) (signed lo hi & b) s p r
  lead_signed P = lead_past k (any_signed P) L

  pub lead_small : {j : ℕ} → Passes (number 0 0) s p m → Leads (suc k) (small j & b) s p r
  lead_small P = lead_past k (any_small P) L

  pub lead_text : {l : ℕ} {c : Class} → Passes (text 0 any) s p m → Leads (suc k) (text l c & b) s p r
  lead_text P = lead_past k (any_text P) L

  pub lead_texts : {j l : ℕ} {c : Class} → Passes (list 0 (text 0 any)) s p m
      → Leads (suc k) (list j (text l c) & b) s p r
  lead_texts P = lead_past k (any_texts P) L

  pub lead_optional_number : {lo hi : ℕ} → Passes (optional (number 0 0)) s p m
      → Leads (suc k) (optional (number lo hi) & b) s p r
  lead_optional_number P = lead_past k (any_optional_number P) L

  pub lead_optional_signed : {lo hi : ℤ} → Passes (optional (number 0 0)) s p m
      → Leads (suc k) (optional (signed lo hi) & b) s p r
  lead_optional_signed P = lead_past k (any_optional_signed P) L

  pub lead_optional_text : {l : ℕ} {c : Class} → Passes (optional (text 0 any)) s p m
      → Leads (suc k) (optional (text l c) & b) s p r
  lead_optional_text P = lead_past k (any_optional_text P) L
