-- Tables of options.
use Rattle.std.specs.Prelude.{List, map}
use Rattle.rk_base.specs.Text.{Text}
use Rattle.ut_args.specs.declared.form.Form.{Form}
use Rattle.ut_args.specs.declared.form.Form.TheVariants.{Alone}
use Rattle.ut_args.specs.declared.form.Opt.{Opt}

-- the options of these letters take an argument of this form
abbrev pub taking : Form → Text → List Opt
taking form = map (λ letter. record { letter = letter; form = form })

-- the options of these letters take none
abbrev pub alone : Text → List Opt
alone = taking Alone
