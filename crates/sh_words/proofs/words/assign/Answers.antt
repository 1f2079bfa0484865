use Rattle.std.proofs.Common.{◌≡◌, ℕ, Bool, true, false, not, codes, if◌then◌else◌, sym, ap, ◌∙◌, arith}
use Rattle.rk_base.specs.Text.{Text}
use Rattle.rk_calls.specs.Lines.{error_line}
use Rattle.sh_vars.specs.Held.{Held, is_readonly}
use Rattle.sh_means.specs.declared.flow.Flow.TheVariants.{Exits}
use Rattle.sh_means.specs.Flows.{Next, Go_on, tells, ends, sh}
use Rattle.sh_means.specs.Stack.{assigning}
use Rattle.sh_means.specs.State.{Shell, with_held, set_variable}
use Rattle.sh_means.specs.Trees.{set_if}
use Rattle.sh_means.specs.Views.{shell_of}
use Rattle.sh_means.specs.Words.{assigns}
use Rattle.sh_words.proofs.words.assign.Goals as goal

opposite : (b done : Bool) → done ≡ not b → b ≡ not done
opposite true done h = ap not (sym h)
opposite false done h = ap not (sym h)

module _ (exported done : Bool) (name value name' value' : Text) (go : Go_on) (k : Next) (e : Shell) (held : Held) (p : ℕ) (hn : name' ≡ name) (hv : value' ≡ value) (hd : done ≡ not (is_readonly e.env.vars name')) (hh : held ≡ set_if done exported name' value' e.env.vars) where
  flag : is_readonly e.env.vars name ≡ not done
  flag = opposite (is_readonly e.env.vars name) done (hd ∙ ap (λ (n : Text). not (is_readonly e.env.vars n)) hn)

  result : held ≡ set_if done exported name value e.env.vars
  result = hh ∙ ap (λ (n : Text). set_if done exported n value' e.env.vars) hn ∙ ap (λ (v : Text). set_if done exported name v e.env.vars) hv

  barred : done ≡ false → assigns exported name value go k e p ≡ tells (error_line sh name (codes "readonly")) (ends Exits 1 k) (with_held held e) p
  barred h =
      ap (λ (b : Bool). (if b then tells (error_line sh name (codes "readonly")) (ends Exits 1 k) e else go (with_held (set_variable exported name value e.env.vars) e)) p) (flag ∙ ap not h)
      ∙ ap (λ (v : Held). tells (error_line sh name (codes "readonly")) (ends Exits 1 k) (with_held v e) p) (sym (result ∙ ap (λ (d : Bool). set_if d exported name value e.env.vars) h))

  assigned : done ≡ true → assigns exported name value go k e p ≡ go (with_held held e) p
  assigned h =
      ap (λ (b : Bool). (if b then tells (error_line sh name (codes "readonly")) (ends Exits 1 k) e else go (with_held (set_variable exported name value e.env.vars) e)) p) (flag ∙ ap not h)
      ∙ ap (λ (v : Held). go (with_held v e) p) (sym (result ∙ ap (λ (d : Bool). set_if d exported name value e.env.vars) h))

pub returns-then-not-branch-clause-talk : goal.returns-then-not-branch-clause-talk
returns-then-not-branch-clause-talk c =
    let e = shell_of c.args.state.now in
    λ k p. barred c.args.left.left.exported c.in_ok-set.field-0 c.args.left.name c.args.value.now c.as_slice.result.now c.as_slice-2.result.now (assigning c.args.left.left c.args.place k) k e c.set.new.vars p c.as_slice.ensures c.as_slice-2.ensures c.in_ok-set.ensures.answer c.in_ok-set.ensures.vars c.if-not-branch.true
    ∙ ap (λ (t : Text). tells (error_line sh t (codes "readonly")) (ends Exits 1 k) (with_held c.set.new.vars e) p) (sym c.as_slice-then-not-branch.ensures)
    ∙ c.in_ok-acted.ensures.talk k p

pub returns-clause-talk : goal.returns-clause-talk
returns-clause-talk c =
    let e = shell_of c.args.state.now in
    λ k p. assigned c.args.left.left.exported c.in_ok-set.field-0 c.args.left.name c.args.value.now c.as_slice.result.now c.as_slice-2.result.now (assigning c.args.left.left c.args.place k) k e c.set.new.vars p c.as_slice.ensures c.as_slice-2.ensures c.in_ok-set.ensures.answer c.in_ok-set.ensures.vars c.if-not-branch.false
    ∙ c.free.ensures.talk k (with_held c.set.new.vars e) p

pub returns-then-not-branch-clause-costly : goal.returns-then-not-branch-clause-costly
returns-then-not-branch-clause-costly c = λ m n h. c.in_ok-acted.ensures.costly m n (omega arith)

pub returns-clause-costly : goal.returns-clause-costly
returns-clause-costly c = λ m n h. c.free.ensures.costly m n (omega arith)
