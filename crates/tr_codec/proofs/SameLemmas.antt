-- Steps are the same where they are said to be.
use Rattle.std.proofs.Common.{◌≡◌, ◌∙◌, refl, sym, ap, ℕ, Bool, true, false, ◌&&◌, ◌==◌, List}
use Rattle.std.specs.Bool.{Decides}
use Rattle.std.specs.Cmp.{unsigned_Decides}
use Rattle.std.specs.Cmp.Lexicographic.{pointwise, pointwise_decides, bytes_decides}
use Rattle.rk_base.specs.Text.{Text, same_text}
use Rattle.rk_base.specs.declared.errno.Errno.{Errno}
use Rattle.rk_base.specs.declared.errno.Errno.TheVariants as errno
use Rattle.rk_base.specs.declared.file_type.FileType.{FileType}
use Rattle.rk_base.specs.declared.file_type.FileType.TheVariants.{File, Dir, Link}
use Rattle.rk_base.specs.declared.vars.Var.{Var}
use Rattle.rk_calls.specs.Keys.{KeyValue, same_var, same_key}
use Rattle.rk_calls.specs.declared.call.How.{How}
use Rattle.rk_calls.specs.declared.call.How.TheVariants as how
use Rattle.rk_calls.specs.declared.call.Call.{Call}
use Rattle.rk_calls.specs.declared.call.Call.TheVariants as call
use Rattle.rk_calls.specs.declared.answer.Answer.{Answer}
use Rattle.rk_calls.specs.declared.answer.Answer.TheVariants as answer
use Rattle.tr_record.specs.declared.steps.Step.{Step}
use Rattle.tr_codec.specs.Pieces.{how_code, flag_code, kind_code, errno_code}
use Rattle.tr_codec.specs.Same.{same_pair, same_call, same_answer, same_step}

two : (a b : Bool) → (a && b) ≡ true → (a ≡ true) × (b ≡ true)
two true b h = (refl, h)
two false b h = absurd (let e : false ≡ true = h in cc)

-- two tests of two parts
parts : {P Q R : Type 0} (a b : Bool) → Decides a P → Decides b Q → (P → Q → R) → (R → P) → (R → Q) → Decides (a && b) R
parts a b d e make one other = (
  λ h. let t = two a b h in make (d.0 t.0) (e.0 t.1),
  λ r. ap (λ c. c && b) (d.1 (one r)) ∙ e.1 (other r),
)

-- one of one part
part : {P R : Type 0} (a : Bool) → Decides a P → (P → R) → (R → P) → Decides a R
part a d make one = (λ h. make (d.0 h), λ r. d.1 (one r))

how_of : ℕ → How
how_of n = elim (n == 0) [ true ↦ how.Read | false ↦ elim (n == 1) [ true ↦ how.Make | false ↦ how.Append ] ]

how_is : (h : How) → how_of (how_code h) ≡ h
unfolding how_of
how_is how.Read = refl
how_is how.Make = refl
how_is how.Append = refl

how_decides : (a b : How) → Decides (how_code a == how_code b) (a ≡ b)
how_decides a b = part (how_code a == how_code b) (unsigned_Decides (how_code a) (how_code b)) (λ e. sym (how_is a) ∙ ap how_of e ∙ how_is b) (λ e. ap how_code e)

flag_from : ℕ → Bool
flag_from n = n == 1

flag_is : (b : Bool) → flag_from (flag_code b) ≡ b
unfolding flag_from
flag_is true = refl
flag_is false = refl

flag_decides : (a b : Bool) → Decides (flag_code a == flag_code b) (a ≡ b)
flag_decides a b = part (flag_code a == flag_code b) (unsigned_Decides (flag_code a) (flag_code b)) (λ e. sym (flag_is a) ∙ ap flag_from e ∙ flag_is b) (λ e. ap flag_code e)

kind_from : ℕ → FileType
kind_from n = elim (n == 1) [ true ↦ File | false ↦ elim (n == 2) [ true ↦ Dir | false ↦ Link ] ]

kind_is : (k : FileType) → kind_from (kind_code k) ≡ k
unfolding kind_from
kind_is File = refl
kind_is Dir = refl
kind_is Link = refl

kind_decides : (a b : FileType) → Decides (kind_code a == kind_code b) (a ≡ b)
kind_decides a b = part (kind_code a == kind_code b) (unsigned_Decides (kind_code a) (kind_code b)) (λ e. sym (kind_is a) ∙ ap kind_from e ∙ kind_is b) (λ e. ap kind_code e)

errno_from : ℕ → Errno
errno_from n =
    elim (n == 1) [
      | true ↦ errno.NoEntry
      | false ↦
          elim (n == 2) [
            | true ↦ errno.NotDir
            | false ↦
                elim (n == 3) [
                  | true ↦ errno.IsDir
                  | false ↦
                      elim (n == 4) [
                        | true ↦ errno.Exists
                        | false ↦
                            elim (n == 5) [
                              | true ↦ errno.Denied
                              | false ↦
                                  elim (n == 6) [
                                    | true ↦ errno.Loops
                                    | false ↦
                                        elim (n == 7) [
                                          | true ↦ errno.NotEmpty
                                          | false ↦
                                              elim (n == 8) [ true ↦ errno.BadRef | false ↦ errno.Invalid ]
                                        ]
                                  ]
                            ]
                      ]
                ]
          ]
    ]

errno_is : (e : Errno) → errno_from (errno_code e) ≡ e
unfolding errno_from
errno_is errno.NoEntry = refl
errno_is errno.NotDir = refl
errno_is errno.IsDir = refl
errno_is errno.Exists = refl
errno_is errno.Denied = refl
errno_is errno.Loops = refl
errno_is errno.NotEmpty = refl
errno_is errno.BadRef = refl
errno_is errno.Invalid = refl

errno_decides : (a b : Errno) → Decides (errno_code a == errno_code b) (a ≡ b)
errno_decides a b = part (errno_code a == errno_code b) (unsigned_Decides (errno_code a) (errno_code b)) (λ e. sym (errno_is a) ∙ ap errno_from e ∙ errno_is b) (λ e. ap errno_code e)

var_decides : (a b : Var) → Decides (same_var a b) (a ≡ b)
var_decides a b =
    parts (same_text a.name b.name) (same_text a.value b.value) (bytes_decides a.name b.name) (bytes_decides a.value b.value)
    (λ e f. ap (λ (t : Text). let v : Var = record { name = t; value = a.value } in v) e ∙ ap (λ (t : Text). let v : Var = record { name = b.name; value = t } in v) f)
    (λ e. ap (λ (v : Var). v.name) e) (λ e. ap (λ (v : Var). v.value) e)

key_decides : (a b : KeyValue) → Decides (same_key a b) (a ≡ b)
key_decides a b =
    let later : Decides (same_text a.wd b.wd && pointwise same_var a.vars b.vars) ((a.wd ≡ b.wd) × (a.vars ≡ b.vars)) =
    parts (same_text a.wd b.wd) (pointwise same_var a.vars b.vars) (bytes_decides a.wd b.wd) (pointwise_decides var_decides a.vars b.vars) (λ e f. (e, f)) (λ p. p.0) (λ p. p.1)
    in
    parts (pointwise same_text a.argv b.argv) (same_text a.wd b.wd && pointwise same_var a.vars b.vars) (pointwise_decides bytes_decides a.argv b.argv) later
    (λ e p.
    ap (λ (l : List Text). let k : KeyValue = record { argv = l; wd = a.wd; vars = a.vars } in k) e
    ∙ ap (λ (t : Text). let k : KeyValue = record { argv = b.argv; wd = t; vars = a.vars } in k) p.0
    ∙ ap (λ (l : List Var). let k : KeyValue = record { argv = b.argv; wd = b.wd; vars = l } in k) p.1)
    (λ e. ap (λ (k : KeyValue). k.argv) e)
    (λ e. (ap (λ (k : KeyValue). k.wd) e, ap (λ (k : KeyValue). k.vars) e))

pair_decides : (a b : ℕ × ℕ) → Decides (same_pair a b) (a ≡ b)
pair_decides a b =
    parts (a.0 == b.0) (a.1 == b.1) (unsigned_Decides a.0 b.0) (unsigned_Decides a.1 b.1)
    (λ e f. ap (λ (n : ℕ). let p : ℕ × ℕ = (n, a.1) in p) e ∙ ap (λ (n : ℕ). let p : ℕ × ℕ = (b.0, n) in p) f)
    (λ e. ap (λ (p : ℕ × ℕ). p.0) e) (λ e. ap (λ (p : ℕ × ℕ). p.1) e)

call_decides : (a b : Call) → Decides (same_call a b) (a ≡ b)
call_decides (call.Open p h) (call.Open q k) = parts (same_text p q) (how_code h == how_code k) (bytes_decides p q) (how_decides h k) (λ e f. cc) (λ e. cc) (λ e. cc)
call_decides (call.Read r) (call.Read s) = part (r == s) (unsigned_Decides r s) (λ e. cc) (λ e. cc)
call_decides (call.ReadLine r) (call.ReadLine s) = part (r == s) (unsigned_Decides r s) (λ e. cc) (λ e. cc)
call_decides (call.Write r p) (call.Write s q) = parts (r == s) (same_text p q) (unsigned_Decides r s) (bytes_decides p q) (λ e f. cc) (λ e. cc) (λ e. cc)
call_decides (call.Stat p f) (call.Stat q g) = parts (same_text p q) (flag_code f == flag_code g) (bytes_decides p q) (flag_decides f g) (λ e h. cc) (λ e. cc) (λ e. cc)
call_decides (call.List p) (call.List q) = part (same_text p q) (bytes_decides p q) (λ e. cc) (λ e. cc)
call_decides (call.ReadLink p) (call.ReadLink q) = part (same_text p q) (bytes_decides p q) (λ e. cc) (λ e. cc)
call_decides (call.Walk p) (call.Walk q) = part (same_text p q) (bytes_decides p q) (λ e. cc) (λ e. cc)
call_decides (call.Same p o) (call.Same q t) = parts (same_text p q) (same_text o t) (bytes_decides p q) (bytes_decides o t) (λ e f. cc) (λ e. cc) (λ e. cc)
call_decides (call.Mkdir p m) (call.Mkdir q n) = parts (same_text p q) (m == n) (bytes_decides p q) (unsigned_Decides m n) (λ e f. cc) (λ e. cc) (λ e. cc)
call_decides (call.Rmdir p) (call.Rmdir q) = part (same_text p q) (bytes_decides p q) (λ e. cc) (λ e. cc)
call_decides (call.Unlink p) (call.Unlink q) = part (same_text p q) (bytes_decides p q) (λ e. cc) (λ e. cc)
call_decides (call.Rename p o) (call.Rename q t) = parts (same_text p q) (same_text o t) (bytes_decides p q) (bytes_decides o t) (λ e f. cc) (λ e. cc) (λ e. cc)
call_decides (call.Symlink p o) (call.Symlink q t) = parts (same_text p q) (same_text o t) (bytes_decides p q) (bytes_decides o t) (λ e f. cc) (λ e. cc) (λ e. cc)
call_decides (call.Link p o) (call.Link q t) = parts (same_text p q) (same_text o t) (bytes_decides p q) (bytes_decides o t) (λ e f. cc) (λ e. cc) (λ e. cc)
call_decides (call.Chmod p m) (call.Chmod q n) = parts (same_text p q) (m == n) (bytes_decides p q) (unsigned_Decides m n) (λ e f. cc) (λ e. cc) (λ e. cc)
call_decides call.Pipe call.Pipe = (λ h. refl, λ e. refl)
call_decides (call.Launch p m) (call.Launch q n) = parts (same_key p q) (pointwise same_pair m n) (key_decides p q) (pointwise_decides pair_decides m n) (λ e f. cc) (λ e. cc) (λ e. cc)
call_decides _ _ = (λ h. absurd (let e : false ≡ true = h in cc), λ e. absurd cc)

answer_decides : (a b : Answer) → Decides (same_answer a b) (a ≡ b)
answer_decides answer.Go answer.Go = (λ h. refl, λ e. refl)
answer_decides answer.Done answer.Done = (λ h. refl, λ e. refl)
answer_decides answer.Opened answer.Opened = (λ h. refl, λ e. refl)
answer_decides answer.Piped answer.Piped = (λ h. refl, λ e. refl)
answer_decides (answer.Content p) (answer.Content q) = part (same_text p q) (bytes_decides p q) (λ e. cc) (λ e. cc)
answer_decides (answer.Stat k m e) (answer.Stat l n f) =
    let later : Decides ((m == n) && (flag_code e == flag_code f)) ((m ≡ n) × (e ≡ f)) = parts (m == n) (flag_code e == flag_code f) (unsigned_Decides m n) (flag_decides e f) (λ x y. (x, y)) (λ p. p.0) (λ p. p.1) in
    parts (kind_code k == kind_code l) ((m == n) && (flag_code e == flag_code f)) (kind_decides k l) later (λ x p. let y = p.0 in let z = p.1 in cc) (λ x. cc) (λ x. ((let y : m ≡ n = cc in y), (let y : e ≡ f = cc in y)))
answer_decides (answer.Names p) (answer.Names q) = part (pointwise same_text p q) (pointwise_decides bytes_decides p q) (λ e. cc) (λ e. cc)
answer_decides (answer.Text p) (answer.Text q) = part (same_text p q) (bytes_decides p q) (λ e. cc) (λ e. cc)
answer_decides (answer.Place p) (answer.Place q) = part (same_text p q) (bytes_decides p q) (λ e. cc) (λ e. cc)
answer_decides (answer.Same s) (answer.Same t) = part (flag_code s == flag_code t) (flag_decides s t) (λ e. cc) (λ e. cc)
answer_decides (answer.Joined s) (answer.Joined t) = part (s == t) (unsigned_Decides s t) (λ e. cc) (λ e. cc)
answer_decides (answer.No e) (answer.No f) = part (errno_code e == errno_code f) (errno_decides e f) (λ e. cc) (λ e. cc)
answer_decides _ _ = (λ h. absurd (let e : false ≡ true = h in cc), λ e. absurd cc)

pub step_decides : (a b : Step) → Decides (same_step a b) (a ≡ b)
unfolding same_step
step_decides a b =
    let later : Decides (same_call a.call b.call && same_answer a.answer b.answer) ((a.call ≡ b.call) × (a.answer ≡ b.answer)) =
    parts (same_call a.call b.call) (same_answer a.answer b.answer) (call_decides a.call b.call) (answer_decides a.answer b.answer) (λ e f. (e, f)) (λ p. p.0) (λ p. p.1)
    in
    parts (a.cost == b.cost) (same_call a.call b.call && same_answer a.answer b.answer) (unsigned_Decides a.cost b.cost) later
    (λ e p.
    ap (λ (n : ℕ). let s : Step = record { cost = n; call = a.call; answer = a.answer } in s) e
    ∙ ap (λ (c : Call). let s : Step = record { cost = b.cost; call = c; answer = a.answer } in s) p.0
    ∙ ap (λ (x : Answer). let s : Step = record { cost = b.cost; call = b.call; answer = x } in s) p.1)
    (λ e. ap (λ (s : Step). s.cost) e)
    (λ e. (ap (λ (s : Step). s.call) e, ap (λ (s : Step). s.answer) e))
