-- Commands are entered.
use Rattle.std.proofs.Common.{◌≡◌, ℕ, ◌+◌, Bool, true, false, List, [], drop, Some, None, refl, sym, ap, subst, ◌∙◌}
use Rattle.std.specs.declared.rc.Rc.{Rc}
use Rattle.std.specs.declared.alloc.Global.{Global}
use Rattle.rk_base.specs.Text.{Text}
use Rattle.rk_calls.specs.Talk.{Says, pay}
use Rattle.rk_calls.specs.declared.answer.Answer.TheVariants.{Go}
use Rattle.sh_ast.specs.Commands as tree
use Rattle.sh_ast.specs.Lists.{command_at}
use Rattle.sh_ast.specs.declared.command.CommandList.{CommandList}
use Rattle.sh_ast.specs.declared.command.Compound as a_compound
use Rattle.sh_ast.specs.declared.command.Connector.{Connector}
use Rattle.sh_ast.specs.declared.command.Connectors.{Connectors}
use Rattle.sh_ast.specs.declared.command.Redirects.{Redirects}
use Rattle.sh_ast.specs.declared.command.SimpleCommand.{SimpleCommand, out-SimpleCommand}
use Rattle.sh_ast.specs.declared.command.Words.{Words}
use Rattle.sh_means.specs.declared.control.Continuation.TheVariants as continuation
use Rattle.sh_means.specs.declared.control.Control.{Control}
use Rattle.sh_means.specs.declared.control.Control.TheVariants as control
use Rattle.sh_means.specs.declared.control.CompoundStep.TheVariants as compound_step
use Rattle.sh_means.specs.declared.control.Made.TheVariants as made
use Rattle.sh_means.specs.declared.control.Then.TheVariants as then
use Rattle.sh_means.specs.declared.control.WordStep.TheVariants as word_step
use Rattle.sh_means.specs.declared.flow.Flow.TheVariants.{Normal}
use Rattle.sh_means.specs.declared.flow.Place.{Place}
use Rattle.sh_redirect.specs.declared.descriptors.DescriptorTable.{DescriptorTable}
use Rattle.sh_means.specs.Compound.{seq_all, and_or_means, links_mean, piped_means, pipeline_means, stages_mean, made_compound, refused_compound, compound_means, define_means}
use Rattle.sh_means.specs.Eval.{command_in, commands_in, compound_in, redirects_in, simple_in, whole_in}
use Rattle.sh_means.specs.Flows.{Next, Means, and_then, ignoring}
use Rattle.sh_means.specs.Run.{run}
use Rattle.sh_means.specs.Simple.{redirects_and_works}
use Rattle.sh_means.specs.Stack.{Goes, commands_from, words_from, redirects_from, simple_of, then_means, first_of, whole, continued, resumed}
use Rattle.sh_means.specs.State.{Shell, unsubstituted, with_status, define, function_tree}
use Rattle.sh_means.specs.Trees.{is_one, cleared}
use Rattle.sh_means.specs.Words.{expand_words, named, redirect_all}
use Rattle.sh_means.proofs.Folding.{simple_is}
use Rattle.sh_means.proofs.Places.{commands_some, commands_none}

pub simple_entered : (c : SimpleCommand) (r : Rc SimpleCommand Global) (ws : Rc Words Global) (fields : List Text) (pl : Place) (k : Next) (e : Shell) (p : ℕ) → r.value ≡ c → ws.value ≡ (out-SimpleCommand c).words.value → fields ≡ [] → simple_in run (tree.simple_command c) pl e k p ≡ pay 1 (resumed (control.WordStep (word_step.Words pl (record { words = ws; at = 0; fields = fields; then = then.Simple r }))) k Go (unsubstituted e)) p
simple_entered c r ws fields pl k e p hr hw hf =
    ap (λ (s : tree.SimpleTree). simple_in run s pl e k p) (simple_is c)
    ∙ ap (λ (c : SimpleCommand). pay 1 (expand_words (words_from (out-SimpleCommand c).words.value 0) [] pl (redirects_and_works run (simple_of c) pl k) k (unsubstituted e)) p) (sym hr)
    ∙ ap (λ (w : Words). pay 1 (expand_words (words_from w 0) [] pl (then_means (then.Simple r) pl k) k (unsubstituted e)) p) (ap (λ (c : SimpleCommand). (out-SimpleCommand c).words.value) hr ∙ sym hw)
    ∙ ap (λ (fs : List Text). pay 1 (expand_words (words_from ws.value 0) fs pl (then_means (then.Simple r) pl k) k (unsubstituted e)) p) (sym hf)

pub compound_entered : (rs0 : Redirects) (b0 : a_compound.Compound) (rs : Rc Redirects Global) (b : Rc a_compound.Compound Global) (before : Rc DescriptorTable Global) (pl : Place) (k : Next) (e : Shell) (p : ℕ) → rs.value ≡ rs0 → b.value ≡ b0 → before.value ≡ e.descriptors → compound_means (redirects_in run (tree.redirects rs0)) (compound_in run (tree.compound b0)) pl e k p ≡ pay 1 (resumed (control.WordStep (word_step.Make pl (record { redirects = rs; at = 0; before = before; made = made.Compound b }))) k Go e) p
compound_entered rs0 b0 rs b before pl k e p hr hb hd =
    ap (λ (R : Redirects). compound_means (redirects_from R 0) (compound_in run (tree.compound b0)) pl e k p) (sym hr)
    ∙ ap (λ (B : a_compound.Compound). compound_means (redirects_from rs.value 0) (compound_in run (tree.compound B)) pl e k p) (sym hb)
    ∙ ap (λ (ds : DescriptorTable). pay 1 (redirect_all (redirects_from rs.value 0) pl (made_compound (compound_in run (tree.compound b.value)) (named (redirects_from rs.value 0)) ds pl k) (refused_compound (named (redirects_from rs.value 0)) ds pl k) k e) p) (sym hd)

pub function_defined : (name name' : Text) (b0 : a_compound.Compound) (b : Rc a_compound.Compound Global) (rs0 : Redirects) (rs : Rc Redirects Global) (pl : Place) (k : Next) (e e' : Shell) (p : ℕ) → name' ≡ name → b.value ≡ b0 → rs.value ≡ rs0 → e' ≡ define name' (function_tree (tree.compound b.value) (tree.redirects rs.value)) e → define_means name (function_tree (tree.compound b0) (tree.redirects rs0)) pl e k p ≡ pay 1 (k Normal (with_status 0 e')) p
function_defined name name' b0 b rs0 rs pl k e e' p hn hb hr he =
    ap (λ (n : Text). define_means n (function_tree (tree.compound b0) (tree.redirects rs0)) pl e k p) (sym hn)
    ∙ ap (λ (B : a_compound.Compound). define_means name' (function_tree (tree.compound B) (tree.redirects rs0)) pl e k p) (sym hb)
    ∙ ap (λ (R : Redirects). define_means name' (function_tree (tree.compound b.value) (tree.redirects R)) pl e k p) (sym hr)
    ∙ ap (λ (x : Shell). pay 1 (k Normal (with_status 0 x)) p) (sym he)

-- Lists.

pub cleared_none : (cs : tree.CommandsTree) (e : Shell) → None ≡ command_at cs 0 → with_status 0 e ≡ cleared cs e
cleared_none tree.no_commands e h = refl
cleared_none (tree.command_and c cs) e h = cc

pub cleared_some : (cs : tree.CommandsTree) (t : tree.CommandTree) (e : Shell) → Some t ≡ command_at cs 0 → e ≡ cleared cs e
cleared_some tree.no_commands t e h = cc
cleared_some (tree.command_and c cs) t e h = refl

whole_so : (cs : tree.CommandsTree) (pl : Place) (e : Shell) (k : Next) (p : ℕ) → whole_in run cs pl e k p ≡ seq_all (commands_in run cs) pl (cleared cs e) k p
whole_so tree.no_commands pl e k p = refl
whole_so (tree.command_and c cs) pl e k p = refl

pub whole_begun : (l d : CommandList) (pl : Place) (k : Next) (e e' : Shell) (p : ℕ) → d ≡ l → e' ≡ cleared (tree.commands d) e → whole l pl e k p ≡ seq_all (commands_from l 0) pl e' k p
whole_begun l d pl k e e' p hd he =
    whole_so (tree.commands l) pl e k p
    ∙ ap (λ (d : CommandList). seq_all (commands_from l 0) pl (cleared (tree.commands d) e) k p) (sym hd)
    ∙ ap (λ (x : Shell). seq_all (commands_from l 0) pl x k p) (sym he)

pub run_begun : (l rest : Rc CommandList Global) (d : CommandList) (t : tree.CommandTree) (at : ℕ) (pl : Place) (k k' : Next) (e : Shell) (p : ℕ) → d ≡ l.value → Some t ≡ command_at (tree.commands d) at → rest.value ≡ l.value → k' ≡ continued (continuation.Rest pl rest (at + 1)) k → seq_all (commands_from l.value at) pl e k p ≡ command_in run t pl e k' p
run_begun l rest d t at pl k k' e p hd is hr hk =
    let is' = subst (λ (d : CommandList). Some t ≡ command_at (tree.commands d) at) hd is in
    ap (λ (ms : List Means). seq_all ms pl e k p) (commands_some (tree.commands l.value) at t is')
    ∙ ap (λ (l : CommandList). command_in run t pl e (and_then (λ e. seq_all (commands_from l (at + 1)) pl e k) k) p) (sym hr)
    ∙ ap (λ (k : Next). command_in run t pl e k p) (sym hk)

pub run_ended : (l : CommandList) (d : CommandList) (at : ℕ) (pl : Place) (k : Next) (e : Shell) (p : ℕ) → d ≡ l → None ≡ command_at (tree.commands d) at → seq_all (commands_from l at) pl e k p ≡ seq_all [] pl e k p
run_ended l d at pl k e p hd is =
    ap (λ (ms : List Means). seq_all ms pl e k p) (commands_none (tree.commands l) at (subst (λ (d : CommandList). None ≡ command_at (tree.commands d) at) hd is))

pub first_some : (l : CommandList) (t : tree.CommandTree) (at : ℕ) (pl : Place) (k : Next) (e : Shell) (p : ℕ) → Some t ≡ command_at (tree.commands l) at → first_of (commands_from l at) pl e k p ≡ command_in run t pl e k p
first_some l t at pl k e p is = ap (λ (ms : List Means). first_of ms pl e k p) (commands_some (tree.commands l) at t is)

pub first_none : (l : CommandList) (at : ℕ) (pl : Place) (k : Next) (e : Shell) (p : ℕ) → None ≡ command_at (tree.commands l) at → first_of (commands_from l at) pl e k p ≡ first_of [] pl e k p
first_none l at pl k e p is = ap (λ (ms : List Means). first_of ms pl e k p) (commands_none (tree.commands l) at is)

-- Pipelines.

piped_one : (cs : tree.CommandsTree) (pl : Place) (k : Next) (e : Shell) (p : ℕ) → is_one cs ≡ true → piped_means (commands_in run cs) pl k e p ≡ first_of (commands_in run cs) pl e k p
piped_one tree.no_commands pl k e p h = refl
piped_one (tree.command_and c tree.no_commands) pl k e p h = refl
piped_one (tree.command_and c (tree.command_and d cs)) pl k e p h = cc

piped_more : (cs : tree.CommandsTree) (pl : Place) (k : Next) (e : Shell) (p : ℕ) → is_one cs ≡ false → piped_means (commands_in run cs) pl k e p ≡ stages_mean None (commands_in run cs) pl k e p
piped_more tree.no_commands pl k e p h = refl
piped_more (tree.command_and c tree.no_commands) pl k e p h = cc
piped_more (tree.command_and c (tree.command_and d cs)) pl k e p h = refl

pub pipes_one : (l : Rc CommandList Global) (d : CommandList) (b : Bool) (pl : Place) (k : Next) (e : Shell) (p : ℕ) → d ≡ l.value → b ≡ is_one (tree.commands d) → b ≡ true → piped_means (commands_in run (tree.commands l.value)) pl k e p ≡ resumed (control.One pl l 0) k Go e p
pipes_one l d b pl k e p hd hb h = piped_one (tree.commands l.value) pl k e p (subst (λ (d : CommandList). is_one (tree.commands d) ≡ true) hd (sym hb ∙ h))

pub pipes_more : (l : Rc CommandList Global) (d : CommandList) (b : Bool) (pl : Place) (k : Next) (e : Shell) (p : ℕ) → d ≡ l.value → b ≡ is_one (tree.commands d) → b ≡ false → piped_means (commands_in run (tree.commands l.value)) pl k e p ≡ resumed (control.CompoundStep (compound_step.Stages pl l 0 None)) k Go e p
pipes_more l d b pl k e p hd hb h = piped_more (tree.commands l.value) pl k e p (subst (λ (d : CommandList). is_one (tree.commands d) ≡ false) hd (sym hb ∙ h))

pub bang_entered : (l0 : CommandList) (l : Rc CommandList Global) (ctl : Control) (pl : Place) (k k' : Next) (e : Shell) (p : ℕ) → l.value ≡ l0 → k' ≡ continued continuation.Invert k → ((k : Next) (e : Shell) → Goes (piped_means (commands_in run (tree.commands l.value)) (ignoring pl) k e) k e ctl) → pipeline_means true (commands_in run (tree.commands l0)) pl e k p ≡ pay 1 (resumed ctl k' Go e) p
bang_entered l0 l ctl pl k k' e p hl hk h =
    ap (λ (l : CommandList). pay 1 (piped_means (commands_in run (tree.commands l)) (ignoring pl) (continued continuation.Invert k) e) p) (sym hl)
    ∙ ap (λ (k : Next). pay 1 (piped_means (commands_in run (tree.commands l.value)) (ignoring pl) k e) p) (sym hk)
    ∙ ap (λ (x : Says). pay 1 x p) (λ i p. h k' e p i)

pub plain_entered : (l0 : CommandList) (l : Rc CommandList Global) (ctl : Control) (pl : Place) (k k' : Next) (e : Shell) (p : ℕ) → l.value ≡ l0 → k' ≡ continued (continuation.Watch pl) k → ((k : Next) (e : Shell) → Goes (piped_means (commands_in run (tree.commands l.value)) pl k e) k e ctl) → pipeline_means false (commands_in run (tree.commands l0)) pl e k p ≡ pay 1 (resumed ctl k' Go e) p
plain_entered l0 l ctl pl k k' e p hl hk h =
    ap (λ (l : CommandList). pay 1 (piped_means (commands_in run (tree.commands l)) pl (continued (continuation.Watch pl) k) e) p) (sym hl)
    ∙ ap (λ (k : Next). pay 1 (piped_means (commands_in run (tree.commands l.value)) pl k e) p) (sym hk)
    ∙ ap (λ (x : Says). pay 1 x p) (λ i p. h k' e p i)

-- AND-OR lists.

and_or_one : (cs : tree.CommandsTree) (connectors : List Connector) (pl : Place) (k : Next) (e : Shell) (p : ℕ) → is_one cs ≡ true → and_or_means (commands_in run cs) connectors pl e k p ≡ pay 1 (first_of (commands_in run cs) pl e (and_then (links_mean (drop 1 (commands_in run cs)) connectors pl k) k)) p
and_or_one tree.no_commands connectors pl k e p h = refl
and_or_one (tree.command_and c tree.no_commands) connectors pl k e p h = refl
and_or_one (tree.command_and c (tree.command_and d cs)) connectors pl k e p h = cc

and_or_more : (cs : tree.CommandsTree) (connectors : List Connector) (pl : Place) (k : Next) (e : Shell) (p : ℕ) → is_one cs ≡ false → and_or_means (commands_in run cs) connectors pl e k p ≡ pay 1 (first_of (commands_in run cs) (ignoring pl) e (and_then (links_mean (drop 1 (commands_in run cs)) connectors pl k) k)) p
and_or_more tree.no_commands connectors pl k e p h = refl
and_or_more (tree.command_and c tree.no_commands) connectors pl k e p h = cc
and_or_more (tree.command_and c (tree.command_and d cs)) connectors pl k e p h = refl

module _ (l0 : CommandList) (l r : Rc CommandList Global) (os0 : Connectors) (os : Rc Connectors Global) (d : CommandList) (b : Bool) (pl : Place) (k k' : Next) (e : Shell) (p : ℕ) (hl : l.value ≡ l0) (hr : r.value ≡ l0) (ho : os.value ≡ os0) (hd : d ≡ l.value) (hb : b ≡ is_one (tree.commands d)) (hk : k' ≡ continued (continuation.Links pl (record { pipelines = r; at = 0; connectors = os })) k) where
  goes_so : (pl' : Place) → pay 1 (first_of (commands_from l0 0) pl' e (and_then (links_mean (commands_from l0 1) os0.items.items pl k) k)) p ≡ pay 1 (resumed (control.One pl' l 0) k' Go e) p
  goes_so pl' =
      ap (λ (c : CommandList). pay 1 (first_of (commands_from l0 0) pl' e (and_then (links_mean (commands_from c 1) os0.items.items pl k) k)) p) (sym hr)
      ∙ ap (λ (o : Connectors). pay 1 (first_of (commands_from l0 0) pl' e (and_then (links_mean (commands_from r.value 1) o.items.items pl k) k)) p) (sym ho)
      ∙ ap (λ (c : CommandList). pay 1 (first_of (commands_from c 0) pl' e (continued (continuation.Links pl (record { pipelines = r; at = 0; connectors = os })) k)) p) (sym hl)
      ∙ ap (λ (k : Next). pay 1 (first_of (commands_from l.value 0) pl' e k) p) (sym hk)

  is_so : b ≡ is_one (tree.commands l0)
  is_so = hb ∙ ap (λ (d : CommandList). is_one (tree.commands d)) (hd ∙ hl)

  pub one_entered : b ≡ true → and_or_means (commands_in run (tree.commands l0)) os0.items.items pl e k p ≡ pay 1 (resumed (control.One pl l 0) k' Go e) p
  one_entered h = and_or_one (tree.commands l0) os0.items.items pl k e p (sym is_so ∙ h) ∙ goes_so pl

  pub more_entered : b ≡ false → and_or_means (commands_in run (tree.commands l0)) os0.items.items pl e k p ≡ pay 1 (resumed (control.One (ignoring pl) l 0) k' Go e) p
  more_entered h = and_or_more (tree.commands l0) os0.items.items pl k e p (sym is_so ∙ h) ∙ goes_so (ignoring pl)
