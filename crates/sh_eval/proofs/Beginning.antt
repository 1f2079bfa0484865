-- The state in which a shell begins.
use Rattle.std.proofs.Common.{◌≡◌, false, ap, ◌∙◌}
use Rattle.std.specs.FinMap.{empty}
use Rattle.rk_base.specs.Text.{Text}
use Rattle.sh_vars.specs.Held.{Held}
use Rattle.sh_redirect.specs.declared.descriptors.DescriptorTable.{DescriptorTable}
use Rattle.sh_redirect.specs.DescriptorTable.{own}
use Rattle.sh_means.specs.State.{Functions, Shell}

-- a shell before its first command, with these parts
abbrev pub shell_with : Held → Text → Text → Functions → DescriptorTable → Shell
shell_with vars zero wd functions ds = record {
  env = record { vars = vars; zero = zero; wd = wd; status = 0; substituted = false; nounset = false; noglob = false; next = 10 };
  errexit = false;
  functions = functions;
  descriptors = ds;
}

pub begins_so : (vars vars0 : Held) (zero wd wd0 : Text) (functions : Functions) (ds : DescriptorTable) → vars ≡ vars0 → wd ≡ wd0 → functions ≡ empty → ds ≡ own → shell_with vars zero wd functions ds ≡ shell_with vars0 zero wd0 empty own
begins_so vars vars0 zero wd wd0 functions ds hv hw hf hd =
    ap (λ (v : Held). shell_with v zero wd functions ds) hv
    ∙ ap (λ (w : Text). shell_with vars0 zero w functions ds) hw
    ∙ ap (λ (fs : Functions). shell_with vars0 zero wd0 fs ds) hf
    ∙ ap (λ (m : DescriptorTable). shell_with vars0 zero wd0 empty m) hd
