use Rattle.std.proofs.Common.{refl}
use Rattle.ut_grep.proofs.GrowingLemmas.{is-added}
use Rattle.ut_grep.proofs.trie.Trie.add.Goals as goal

pub returns : goal.returns
returns c =
    is-added c.args.self.now record { texts = c.args.self.now.texts; states = c.push.new.self; bytes = c.push-2.new.self; starts = c.args.self.now.starts }
    c.requires.trie c.args.at c.args.b c.args.state c.requires.at c.requires.state refl c.in_ok-push.ensures.items c.in_ok-push-2.ensures.items refl
