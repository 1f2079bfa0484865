-- What is launched has a name.
use Rattle.std.proofs.Common.{◌≡◌, ◌<◌, ℕ, List, [], ◌∷◌, length, Option, Some, None, Result, Ok, Err, Bool, true, false, codes, map, if◌then◌else◌, refl, sym, ap, ◌∙◌, arith}
use Rattle.std.specs.FinMap.{get}
use Rattle.rk_base.specs.Text.{Text}
use Rattle.sh_builtin.specs.Names.{is_builtin}
use Rattle.sh_operands.specs.Counts.{count}
use Rattle.sh_operands.specs.Words.{first_that, is_misnamed}
use Rattle.sh_special.specs.declared.name.Name.{Name}
use Rattle.sh_special.specs.declared.name.Name.TheVariants as builtin
use Rattle.sh_special.specs.declared.options.Options.{Options}
use Rattle.sh_special.specs.declared.options.SetWord.{SetWord}
use Rattle.sh_special.specs.declared.options.SetWord.TheVariants.{Letters, Last, Operand}
use Rattle.sh_special.specs.declared.order.Order.{Order}
use Rattle.sh_special.specs.declared.order.Order.TheVariants as order
use Rattle.sh_special.specs.Orders.{by_number, unless_found, from_one, status_in, declaration_of, declares_none, orders, order_in, order_of, name_of}
use Rattle.sh_special.specs.Settings.{kind_of as kind_of_word, behind_sign, with_letters, behind_letters, by_kind, settings, none_named}
use Rattle.sh_means.specs.declared.control.CommandKind as code
use Rattle.sh_means.specs.declared.control.CommandKind.TheVariants as kinds
use Rattle.sh_means.specs.declared.resolved_command.ResolvedCommand.{ResolvedCommand}
use Rattle.sh_means.specs.Launchable.{has_name, names_command, is_launchable}
use Rattle.sh_means.specs.Simple.{Special, Builtin, Launches, called_kind, special_kind, kind_of}
use Rattle.sh_means.specs.Stack.{kind_of_code}
use Rattle.sh_means.specs.State.{FunctionTree, Functions}

numbered : (n word : Text) (ws : List Text) (f : ℕ → Order) (v : Option ℕ) → ((v : ℕ) → names_command (f v) ≡ true) → names_command (by_number n word ws f v) ≡ true
numbered n word ws f None h = refl
numbered n word [] f (Some v) h = h v
numbered n word (x ∷ ws) f (Some v) h = refl

found_or : (n : Text) (word : Option Text) (o : Order) → names_command o ≡ true → names_command (unless_found n word o) ≡ true
found_or n None o h = h
found_or n (Some word) o h = refl

lettered : (on : Bool) (r : Result Options ℕ) (rest : Options → Order) → ((x : Options) → names_command (rest x) ≡ true) → names_command (behind_letters on r rest) ≡ true
lettered on (Ok x) rest h = h x
lettered on (Err b) rest h = refl

by_word : (kd : SetWord) (word : Text) (ws : List Text) (x : Options) (rest : Options → Order) → ((x : Options) → names_command (rest x) ≡ true) → names_command (by_kind kd word ws x rest) ≡ true
by_word (Letters on) word ws x rest h = lettered on (with_letters on (behind_sign word) x) rest h
by_word Last word ws x rest h = refl
by_word Operand word ws x rest h = refl

set_so : (ws : List Text) (x : Options) → names_command (settings ws x) ≡ true
set_so [] x = refl
set_so (word ∷ ws) x = by_word (kind_of_word word) word ws x (λ x. settings ws x) (λ x. set_so ws x)

ordered : (n : Name) (ws : List Text) → names_command (orders n ws) ≡ true
ordered builtin.Colon ws = refl
ordered builtin.Dot [] = refl
ordered builtin.Dot (file ∷ []) = refl
ordered builtin.Dot (file ∷ next ∷ ws) = refl
ordered builtin.Break [] = refl
ordered builtin.Break (word ∷ ws) = numbered (codes "break") word ws (λ v. order.Break v) (from_one (count word)) (λ v. refl)
ordered builtin.Continue [] = refl
ordered builtin.Continue (word ∷ ws) = numbered (codes "continue") word ws (λ v. order.Continue v) (from_one (count word)) (λ v. refl)
ordered builtin.Eval ws = refl
ordered builtin.Exec [] = refl
ordered builtin.Exec (word ∷ ws) = refl
ordered builtin.Exit [] = refl
ordered builtin.Exit (word ∷ ws) = numbered (codes "exit") word ws (λ v. order.Exit (Some v)) (status_in (count word)) (λ v. refl)
ordered builtin.Export [] = refl
ordered builtin.Export (word ∷ ws) = found_or (codes "export") (first_that declares_none (word ∷ ws)) (order.Declare false (map declaration_of (word ∷ ws))) refl
ordered builtin.Readonly [] = refl
ordered builtin.Readonly (word ∷ ws) = found_or (codes "readonly") (first_that declares_none (word ∷ ws)) (order.Declare true (map declaration_of (word ∷ ws))) refl
ordered builtin.Return [] = refl
ordered builtin.Return (word ∷ ws) = numbered (codes "return") word ws (λ v. order.Return (Some v)) (status_in (count word)) (λ v. refl)
ordered builtin.Set [] = refl
ordered builtin.Set (word ∷ ws) = set_so (word ∷ ws) none_named
ordered builtin.Shift [] = refl
ordered builtin.Shift (word ∷ ws) = numbered (codes "shift") word ws (λ v. order.Shift v) (count word) (λ v. refl)
ordered builtin.Unset ws = found_or (codes "unset") (first_that is_misnamed ws) (order.Unset ws) refl

named_so : (n : Option Name) (ws : List Text) (o : Order) → order_in n ws ≡ Some o → names_command o ≡ true
named_so None ws o h = absurd (cc)
named_so (Some n) ws o h = let e : orders n ws ≡ o = cc in ap names_command (sym e) ∙ ordered n ws

no_builtin : (b : Bool) (o : Order) → Special o ≡ (if b then Builtin else Launches) → ⊥
no_builtin true o h = cc
no_builtin false o h = cc

no_call : (name : Text) (f : Option FunctionTree) (o : Order) → Special o ≡ called_kind name f → ⊥
no_call name None o h = no_builtin (is_builtin name) o h
no_call name (Some f) o h = cc

by_order : (name : Text) (functions : Functions) (found : Option Order) (o : Order) → Special o ≡ special_kind name functions found → found ≡ Some o
by_order name functions None o h = absurd (no_call name (get functions name) o h)
by_order name functions (Some x) o h = let e : x ≡ o = cc in ap (λ (o : Order). Some o) e

-- a command whose kind is that of its fields
pub launchable : (kd : code.CommandKind) (fields : List Text) (functions : Functions) → kind_of_code kd ≡ kind_of fields functions → is_launchable kd fields ≡ true
launchable kinds.Bare fields functions h = refl
launchable (kinds.Special o) [] functions h = absurd (cc)
launchable (kinds.Special o) (name ∷ ws) functions h = named_so (name_of name) ws o (by_order name functions (order_of (name ∷ ws)) o h)
launchable (kinds.Calls callee) fields functions h = refl
launchable kinds.Builtin fields functions h = refl
launchable kinds.Launches [] functions h = absurd (cc)
launchable kinds.Launches (name ∷ ws) functions h = refl

pub named : (d : ResolvedCommand) (o : Order) → d.kind ≡ kinds.Special o → names_command o ≡ true
named d o h = ap (λ (kd : code.CommandKind). is_launchable kd d.fields) (sym h) ∙ d.launchable

pub some_name : (fields : List Text) → has_name fields ≡ true → 0 < length fields
some_name [] h = absurd (cc)
some_name (name ∷ ws) h = omega arith

pub launches_named : (d : ResolvedCommand) → d.kind ≡ kinds.Launches → 0 < length d.fields
launches_named d h = some_name d.fields (ap (λ (kd : code.CommandKind). is_launchable kd d.fields) (sym h) ∙ d.launchable)
