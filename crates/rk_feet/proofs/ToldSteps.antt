-- What is told of the call of a step tells its program.
use Rattle.std.proofs.Common.{◌≡◌, sym, subst}
use Rattle.rk_calls.specs.Refs.{RefsHeld}
use Rattle.rk_calls.specs.declared.call.Call.{Call}
use Rattle.rk_kernel.specs.Feet.{foot_by}
use Rattle.rk_feet.specs.Named.{Does}
use Rattle.rk_feet.specs.Steps.{Ask, Open, Read, ReadLine, Write, Stat, List as ListOf, ReadLink, Walk, Same, Mkdir, Rmdir, Unlink, Rename, Symlink, Link}
use Rattle.rk_feet.specs.Steps.{Chmod, Pipe, Launch, asks}
use Rattle.rk_feet.specs.Told.{GetsNumbersOf, IsCall, Later, Tells, TellsFeet}
use Rattle.rk_feet.specs.World.{World}
use Rattle.rk_feet.proofs.ToldChanges.{changes}
use Rattle.rk_feet.proofs.ToldDescriptions.{descriptions}
use Rattle.rk_feet.proofs.ToldQuestions.{questions}

module _ (w : World) (l : Later w) (refs : RefsHeld) (c : Call) where
  as-call : (it : Call) (x : Does) → c ≡ it → Tells w l (foot_by w.held refs it) x → Tells w l (foot_by w.held refs c) x
  as-call it x is h = subst (λ c. Tells w l (foot_by w.held refs c) x) (sym is) h

  of-ask : (a : Ask) → IsCall w refs a c → GetsNumbersOf w l a (asks l.command l.number a) → Tells w l (foot_by w.held refs c) (asks l.command l.number a)
  of-ask (Open path h) is so = as-call _ _ is (descriptions.opens w l refs path h so)
  of-ask (Read on) is so = as-call _ _ is.1 (descriptions.reads w l refs is.0 on is.2)
  of-ask (ReadLine on) is so = as-call _ _ is.1 (descriptions.lines w l refs is.0 on is.2)
  of-ask (Write on text) is so = as-call _ _ is.1 (descriptions.writes w l refs is.0 text on is.2)
  of-ask (Stat path follow) is so = as-call _ _ is (questions.stats w l refs path follow)
  of-ask (ListOf path) is so = as-call _ _ is (questions.lists w l refs path)
  of-ask (ReadLink path) is so = as-call _ _ is (questions.links w l refs path)
  of-ask (Walk path) is so = as-call _ _ is (questions.walks w l refs path)
  of-ask (Same a b) is so = as-call _ _ is (questions.compares w l refs a b)
  of-ask (Mkdir path mode) is so = as-call _ _ is (changes.dirs w l refs path mode so)
  of-ask (Rmdir path) is so = as-call _ _ is (changes.removes w l refs path)
  of-ask (Unlink path) is so = as-call _ _ is (changes.unlinks w l refs path)
  of-ask (Rename a b) is so = as-call _ _ is (changes.renames w l refs a b)
  of-ask (Symlink text path) is so = as-call _ _ is (changes.links w l refs text path)
  of-ask (Link a b) is so = as-call _ _ is (changes.names w l refs a b)
  of-ask (Chmod path mode) is so = as-call _ _ is (changes.modes w l refs path mode)
  of-ask Pipe is so = as-call _ _ is (descriptions.pipes w l refs so)
  of-ask (Launch answer) is so = record { reads = tt; writes = tt }

pub feet : TellsFeet
feet w l refs ask c is so = of-ask w l refs c ask is so
