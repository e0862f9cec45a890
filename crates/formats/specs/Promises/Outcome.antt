-- Promise. What a reader finds, as a place in the whole: how the interpreter's answers are said.
use Rattle.std.specs.Prelude.{cond, List, ℕ, zero, suc, ◌+◌, ◌-◌, ◌*◌, length, drop, get_or, ltb, Option, Some, None}
use Rattle.std.proofs.Math.Option.{Option as LogicOption, none, some}
use Rattle.formats.specs.Readers.{many_r, Reader, only_r}
use Rattle.formats.specs.Number.{zag}
use Rattle.formats.specs.Class.{Class, any, printable, token, utf8}
use Rattle.formats.specs.Format.{Format, never, empty, number, signed, small, text, float, constant, list, choice}
use Rattle.formats.specs.Format.{◌&◌, read, Value, takes}

abbrev pub numbered : List ℕ → LogicOption (ℕ × List ℕ) → Option (ℕ × ℕ)
numbered s none = None
numbered s (some p) = Some (p.0, length s - length p.1)

abbrev pub skipped : {A : Type 0} → List ℕ → LogicOption (A × List ℕ) → Option ℕ
skipped s none = None
skipped s (some p) = Some (length s - length p.1)

-- an element of a list
abbrev pub element : (f : Format) → Reader (Value f)
element f = only_r (takes f) (read f)

-- past a value of a format, and past n values of it
abbrev pub skip_to : Format → List ℕ → ℕ → Option ℕ
skip_to f s at = skipped s (read f (drop at s))

abbrev pub skip_many : Format → ℕ → List ℕ → ℕ → Option ℕ
skip_many f n s at = skipped s (many_r (element f) n (drop at s))

abbrev pub class_of : ℕ → Class
class_of zero = any
class_of (suc zero) = printable
class_of (suc (suc zero)) = token
class_of (suc (suc (suc n))) = utf8

-- the format of a node: four words to a node, the kind and two more, and one to spare. A signed number's bounds
-- stand as they are written
abbrev pub node_format : ℕ → ℕ → ℕ → (ℕ → Format) → Format
node_format zero a b sub = never
node_format (suc zero) a b sub = empty
node_format (suc (suc zero)) a b sub = number a b
node_format (suc (suc (suc zero))) a b sub = signed (zag a) (zag b)
node_format (suc (suc (suc (suc zero)))) a b sub = small a
node_format (suc (suc (suc (suc (suc zero))))) a b sub = text a (class_of b)
node_format (suc (suc (suc (suc (suc (suc zero)))))) a b sub = float
node_format (suc (suc (suc (suc (suc (suc (suc zero))))))) a b sub = constant a
node_format (suc (suc (suc (suc (suc (suc (suc (suc zero)))))))) a b sub = list a (sub b)
node_format (suc (suc (suc (suc (suc (suc (suc (suc (suc zero))))))))) a b sub = choice (sub a) (sub b)
node_format (suc (suc (suc (suc (suc (suc (suc (suc (suc (suc zero)))))))))) a b sub = sub a & sub b
node_format (suc (suc (suc (suc (suc (suc (suc (suc (suc (suc (suc k))))))))))) a b sub = never

abbrev pub format_at : ℕ → List ℕ → ℕ → Format
format_at zero t n = never
format_at (suc d) t n = node_format (get_or t (4 * n + 0) 0) (get_or t (4 * n + 1) 0) (get_or t (4 * n + 2) 0)
    (format_at d t)

-- a format that has no parts, of the kinds below 8
abbrev pub leaf_format : ℕ → ℕ → ℕ → Format
leaf_format kind a b = node_format kind a b (λ n. never)

abbrev pub tag_at : List ℕ → ℕ → ℕ
tag_at s at = cond (ltb at (length s)) (get_or s at 0) 2
