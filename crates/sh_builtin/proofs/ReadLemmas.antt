-- What holds of `read`.
use Rattle.std.proofs.Common.{◌≡◌, ℕ, suc, ◌-◌, ◌<◌, List, [], ◌∷◌, ◌++◌, drop, codes, Bool, true, false, Option, Some, None, Result, Ok, Err, refl, subst, arith}
use Rattle.rk_base.specs.Text.{Text, same_text}
use Rattle.rk_base.specs.Errno.{word}
use Rattle.rk_base.specs.declared.errno.Errno.{Errno}
use Rattle.rk_base.specs.declared.errno.Errno.TheVariants.{BadRef}
use Rattle.rk_calls.specs.declared.call.Call.TheVariants.{ReadLine}
use Rattle.rk_calls.specs.Brought.{brought}
use Rattle.rk_calls.specs.Fix.{AlikeBelow, Pays_first, fix-alike, fix-is}
use Rattle.rk_calls.specs.Lines.{error_line}
use Rattle.rk_calls.specs.Talk.{Says}
use Rattle.rk_calls.specs.Views.{View, As_is, Alike, alike-if}
use Rattle.sh_vars.specs.declared.env.Env.{Env}
use Rattle.sh_vars.specs.Held.{is_readonly}
use Rattle.sh_builtin.specs.declared.marks.Marked.{Marked}
use Rattle.sh_builtin.specs.declared.line.End.{End}
use Rattle.sh_builtin.specs.declared.line.End.TheVariants.{Whole, Short, Continued}
use Rattle.sh_builtin.specs.declared.name.Name.{Name}
use Rattle.sh_builtin.specs.declared.name.Name.TheVariants as name
use Rattle.sh_builtin.specs.Laws.{EndsAlike, BothAlike, IsAlike}
use Rattle.sh_builtin.proofs.AlikeLemmas.{lower, alike-ends, alike-choice, alike-at_slot, alike-tells}
use Rattle.sh_builtin.specs.Cds.{sets, with_value}
use Rattle.sh_builtin.specs.Action.{Slots, Ended, Action, heard}
use Rattle.sh_builtin.specs.Fields.{values}
use Rattle.sh_builtin.specs.Lines.{line_of}
use Rattle.sh_builtin.specs.Names.{text_of}
use Rattle.sh_operands.specs.Words.{first_that, is_misnamed}
use Rattle.sh_builtin.specs.Reads.{At, Job, first_value, assigns, ifs_of, takes, by_end, line_read, reads_line, reads_on, reads_lines, unless_readonly, unless_misnamed, reads_named, reads_into, reads}
use Rattle.sh_builtin.specs.Telling.{complains, usage_line}

alike-complains : (n : Name) (operand what : Text) (status : ℕ) → IsAlike (complains n operand what status)
alike-complains n operand what status = alike-tells (error_line (text_of n) operand what) status

pub alike-sets : (n : Name) (x value : Text) (go : Action) → IsAlike go → IsAlike (sets n x value go)
alike-sets n x value go h v p slots k k' env hk =
    alike-if v p (is_readonly env.vars x) (complains n x (codes "readonly") 1 slots k env) (complains n x (codes "readonly") 1 slots k' env) (go slots k (with_value x value env)) (go slots k' (with_value x value env))
    (alike-complains n x (codes "readonly") 1 v p slots k k' env hk)
    (h v p slots k k' (with_value x value env) hk)

alike-assigns : (xs vs : List Text) (status : ℕ) → IsAlike (assigns xs vs status)
alike-assigns [] vs status = alike-ends status
alike-assigns (x ∷ xs) vs status = alike-sets name.Read x (first_value vs) (assigns xs (drop 1 vs) status) (alike-assigns xs (drop 1 vs) status)

alike-takes : (xs : List Text) (marks : List Marked) (status : ℕ) → IsAlike (takes xs marks status)
alike-takes xs marks status v p slots k k' env hk = alike-assigns xs (values (ifs_of env) xs marks) status v p slots k k' env hk

-- two reads that stand at one place, with what comes after them
abbrev pub Related : View → ℕ → Job → Job → Type 0
Related v p j j' = (j.at ≡ j'.at) × EndsAlike v p j.next j'.next

module _ (v : View) (P : ℕ) (x y : Job → Says) (below : AlikeBelow v (Related v) P x y) where
  alike-by_end : (raw : Bool) (xs : List Text) (marks : List Marked) (e : End) (p : ℕ) → p < P → BothAlike v p (by_end x raw xs marks e) (by_end y raw xs marks e)
  alike-by_end raw xs marks Whole p lt slots k k' env hk = alike-takes xs marks 0 v p slots k k' env hk
  alike-by_end raw xs marks Short p lt slots k k' env hk = alike-takes xs marks 1 v p slots k k' env hk
  alike-by_end raw xs marks Continued p lt slots k k' env hk =
      let at : At = record { raw = raw; names = xs; marks = marks; slots = slots; env = env } in below (record { at = at; next = k }) (record { at = at; next = k' }) p lt (refl, hk)

  alike-line_read : (raw : Bool) (xs : List Text) (marks : List Marked) (r : Result Text Errno) (p : ℕ) → p < P → BothAlike v p (line_read x raw xs marks r) (line_read y raw xs marks r)
  alike-line_read raw xs marks (Ok text) p lt = alike-by_end raw xs (marks ++ (line_of raw text).marks) (line_of raw text).end p lt
  alike-line_read raw xs marks (Err errno) p lt = alike-complains name.Read (codes "input") (word errno) 1 v p

  alike-reads_line : (at : At) (k k' : Ended) (p : ℕ) → p < suc P → EndsAlike v p k k' → Alike v p (reads_line x (record { at = at; next = k })) (reads_line y (record { at = at; next = k' }))
  alike-reads_line at k k' p lt hk =
      alike-at_slot v p (at.slots 0) (λ m. ReadLine m) 1 (λ a. line_read x at.raw at.names at.marks (brought a) at.slots k) (λ a. line_read y at.raw at.names at.marks (brought a) at.slots k') at.env (λ m. tt)
      (alike-complains name.Read (codes "input") (word BadRef) 1 v p at.slots k k' at.env hk)
      (λ a le. alike-line_read at.raw at.names at.marks (brought a) (p - 1) (omega arith) at.slots k k' (heard a at.env) (lower v p (p - 1) k k' (omega arith) hk))

pays : Pays_first Related reads_line
pays v P x y below j j' p lt h =
    let Q : At → Type 0 = λ at. Alike v p (reads_line x j) (reads_line y (record { at = at; next = j'.next })) in
    subst Q h.0 (alike-reads_line v P x y below j.at j.next j'.next p lt h.1)

same-ends : (p : ℕ) (k : Ended) → EndsAlike As_is p k k
same-ends p k status env q le = refl

-- a read asks for a line, and goes on by it
pub reads-is : (raw : Bool) (xs : List Text) (marks : List Marked) (slots : Slots) (k : Ended) (env : Env) (p : ℕ) → reads_lines raw xs marks slots k env p ≡ reads_line reads_on (record { at = record { raw = raw; names = xs; marks = marks; slots = slots; env = env }; next = k }) p
reads-is raw xs marks slots k env p =
    fix-is Related reads_line pays (record { at = record { raw = raw; names = xs; marks = marks; slots = slots; env = env }; next = k }) p (refl, same-ends p k)

alike-reads_lines : (raw : Bool) (xs : List Text) (marks : List Marked) → IsAlike (reads_lines raw xs marks)
alike-reads_lines raw xs marks v p slots k k' env hk =
    let at : At = record { raw = raw; names = xs; marks = marks; slots = slots; env = env } in
    fix-alike Related reads_line pays v (suc p) (record { at = at; next = k }) (record { at = at; next = k' }) p (omega arith) (refl, hk)

alike-unless_readonly : (o : Option Text) (go : Action) → IsAlike go → IsAlike (unless_readonly o go)
alike-unless_readonly None go h = h
alike-unless_readonly (Some x) go h = alike-complains name.Read x (codes "readonly") 1

alike-unless_misnamed : (o : Option Text) (go : Action) → IsAlike go → IsAlike (unless_misnamed o go)
alike-unless_misnamed None go h = h
alike-unless_misnamed (Some x) go h = alike-complains name.Read x (codes "usage") 1

alike-reads_named : (raw : Bool) (xs : List Text) → IsAlike (reads_named raw xs)
alike-reads_named raw xs v p slots k k' env hk =
    alike-unless_readonly (first_that (is_readonly env.vars) xs) (reads_lines raw xs []) (alike-reads_lines raw xs []) v p slots k k' env hk

alike-reads_into : (raw : Bool) (xs : List Text) → IsAlike (reads_into raw xs)
alike-reads_into raw [] = alike-tells (usage_line (codes "read")) 1
alike-reads_into raw (x ∷ xs) = alike-unless_misnamed (first_that is_misnamed (x ∷ xs)) (reads_named raw (x ∷ xs)) (alike-reads_named raw (x ∷ xs))

pub alike-reads : (operands : List Text) → IsAlike (reads operands)
alike-reads [] = alike-reads_into false []
alike-reads (x ∷ xs) = alike-choice (same_text x (codes "-r")) (reads_into true xs) (reads_into false (x ∷ xs)) (alike-reads_into true xs) (alike-reads_into false (x ∷ xs))
