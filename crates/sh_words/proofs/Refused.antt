-- A refused redirection, and where that leads.
use Rattle.std.proofs.Common.{◌≡◌, ℕ, List, refl, sym, ap, ◌∙◌}
use Rattle.sh_redirect.specs.declared.descriptors.DescriptorTable.{DescriptorTable}
use Rattle.sh_means.specs.declared.control.Continuation.TheVariants as continuation
use Rattle.sh_means.specs.declared.control.Made.{Made}
use Rattle.sh_means.specs.declared.control.Made.TheVariants.{Simple, Compound}
use Rattle.sh_means.specs.declared.control.PendingRedirects.{PendingRedirects}
use Rattle.sh_means.specs.declared.control.Undo.TheVariants as undo
use Rattle.sh_means.specs.declared.flow.Flow.{Flow}
use Rattle.sh_means.specs.declared.flow.Place.{Place}
use Rattle.sh_means.specs.Flows.{Next, ends, watched}
use Rattle.sh_words.specs.Making.{made_flow}
use Rattle.sh_means.specs.Stack.{redirects_from, refused_go, when_refused, continued, undone}
use Rattle.sh_means.specs.State.{Shell}
use Rattle.sh_means.specs.Words.{named, unredirected}

refused_is : (m : Made) (ds : List ℕ) (before : DescriptorTable) (pl : Place) (k : Next) (e : Shell) (p : ℕ) → refused_go m ds before pl k e p ≡ ends (made_flow m) 1 (unredirected ds before (watched pl k)) e p
refused_is (Simple as' resolved) ds before pl k e p = refl
refused_is (Compound b) ds before pl k e p = refl

pub refusal_leads : (m : PendingRedirects) (pl : Place) (k k' k'' : Next) (flow : Flow) (e : Shell) (p : ℕ) → flow ≡ made_flow m.made → k' ≡ continued (continuation.Watch pl) k → k'' ≡ undone (undo.Redirected m.redirects m.before) k' → when_refused m pl k e p ≡ ends flow 1 k'' e p
refusal_leads m pl k k' k'' flow e p hf h' h'' =
    refused_is m.made (named (redirects_from m.redirects.value 0)) m.before.value pl k e p
    ∙ ap (λ (f : Flow). ends f 1 (undone (undo.Redirected m.redirects m.before) (continued (continuation.Watch pl) k)) e p) (sym hf)
    ∙ ap (λ (k : Next). ends flow 1 (undone (undo.Redirected m.redirects m.before) k) e p) (sym h')
    ∙ ap (λ (k : Next). ends flow 1 k e p) (sym h'')
