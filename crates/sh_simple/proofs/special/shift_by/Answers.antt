use Rattle.std.proofs.Common.{◌≡◌, ℕ, Bool, false, drop, codes, if◌then◌else◌, sym, ap, ◌∙◌}
use Rattle.sh_vars.specs.Held.{Held}
use Rattle.sh_special.specs.Changes.{has_shift, shifted}
use Rattle.sh_means.specs.declared.flow.Flow.TheVariants.{Normal}
use Rattle.sh_means.specs.Flows.{Next, ends}
use Rattle.sh_means.specs.Simple.{errs, shifts}
use Rattle.sh_means.specs.State.{Shell, with_held}
use Rattle.sh_means.specs.Views.{shell_of}
use Rattle.sh_simple.proofs.special.shift_by.Goals as goal

-- where there are fewer parameters nothing is shifted
shift_refused : (n : ℕ) (k : Next) (e : Shell) (held : Held) (p : ℕ) → has_shift n e.env.vars ≡ false → held ≡ shifted n e.env.vars → shifts n k e p ≡ errs (codes "shift") (codes "not valid") k (with_held held e) p
shift_refused n k e held p h hv =
    let same : shifted n e.env.vars ≡ e.env.vars = ap (λ (b : Bool). if b then record e.env.vars { positional = drop n e.env.vars.positional } else e.env.vars) h in
    ap (λ (b : Bool). (if b then ends Normal 0 k (with_held (shifted n e.env.vars) e) else errs (codes "shift") (codes "not valid") k e) p) h
    ∙ ap (λ (v : Held). errs (codes "shift") (codes "not valid") k (with_held v e) p) (sym (hv ∙ same))

pub returns-clause-talk : goal.returns-clause-talk
returns-clause-talk c =
    λ k p. shift_refused c.args.n k (shell_of c.args.state.now) c.shift.new.vars p (sym c.shift.ensures.answer ∙ c.if-shift.false) c.shift.ensures.held ∙ c.in_ok-acted.ensures.talk k p
