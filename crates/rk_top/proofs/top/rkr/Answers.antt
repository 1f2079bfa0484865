use Rattle.std.proofs.Common.{map, refl, string_bytes}
use Rattle.rk_top.specs.Outside.{Outside}
use Rattle.rk_top.specs.Recovers.{is_of_folder}
use Rattle.rk_top.proofs.AskLemmas.{a-gen, a-query, if-build}
use Rattle.rk_top.proofs.RecoverLemmas.{after-asked, after-none, after-stop, after-unread, not-none, precedes, stops-first}
use Rattle.rk_top.proofs.ServeLemmas.{answer-asked, line-asked, unqueried, works-as, works-of}
use Rattle.rk_top.proofs.top.rkr.Goals as goal

pub returns-in-Build : goal.returns-in-Build
returns-in-Build g c =
    let mid : Outside = record {
      reach = g.F.Folder.reach c.finish.new.folder;
      held = g.F.Folder.told c.finish.new.folder;
      schedule = g.F.Folder.schedule c.finish.new.folder;
      reads = g.F.Folder.read_faults c.finish.new.folder;
      writes = g.F.Folder.write_faults c.finish.new.folder;
      memory = g.F.Folder.memory_failures c.finish.new.folder;
      out = record { so_far = g.O.Sink.so_far c.args.out.now; faults = g.O.Sink.faults c.args.out.now; memory = g.O.Sink.memory_failures c.args.out.now };
      err = record { so_far = g.E.Sink.so_far c.args.err.now; faults = g.E.Sink.faults c.args.err.now; memory = g.E.Sink.memory_failures c.args.err.now };
      steady = record { folder = g.F.Folder.steady c.finish.new.folder; out = g.O.Sink.steady c.args.out.now; err = g.E.Sink.steady c.args.err.now };
      live = c.args.live.now;
    } in
    let worked : Outside = record {
      reach = g.F.Folder.reach c.build_in-outcome.new.folder;
      held = g.F.Folder.told c.build_in-outcome.new.folder;
      schedule = g.F.Folder.schedule c.build_in-outcome.new.folder;
      reads = g.F.Folder.read_faults c.build_in-outcome.new.folder;
      writes = g.F.Folder.write_faults c.build_in-outcome.new.folder;
      memory = g.F.Folder.memory_failures c.build_in-outcome.new.folder;
      out = record { so_far = g.O.Sink.so_far c.build_in-outcome.new.out; faults = g.O.Sink.faults c.build_in-outcome.new.out; memory = g.O.Sink.memory_failures c.build_in-outcome.new.out };
      err = record { so_far = g.E.Sink.so_far c.build_in-outcome.new.err; faults = g.E.Sink.faults c.build_in-outcome.new.err; memory = g.E.Sink.memory_failures c.build_in-outcome.new.err };
      steady = record { folder = g.F.Folder.steady c.build_in-outcome.new.folder; out = g.O.Sink.steady c.build_in-outcome.new.out; err = g.E.Sink.steady c.build_in-outcome.new.err };
      live = c.build_in-outcome.new.live;
    } in
    after-asked (map string_bytes c.args.words.now) c.in-Ok.asked _ mid worked _ _ c.build_in-outcome.result c.tell.result c.in-Ok.ensures.asked (precedes (is_of_folder c.in-Ok.asked) _ mid c.in-None.ensures.told (λ off. let a = c.in-None.ensures.apart off in (a.0, a.1)) c.in-None.ensures.looks c.in-None.ensures.cause c.in-None.ensures.writes c.in-None.ensures.memory c.in-None.ensures.steady.0 refl refl refl refl refl) (record {
      asked = c.build_in-outcome.ensures.asked;
      build = if-build c.in-Ok.asked _ (record {
        builds = record {
          folder = c.build_in-outcome.ensures.folder;
          status = c.build_in-outcome.ensures.status;
          tally = c.build_in-outcome.ensures.tally;
          checked = c.build_in-outcome.ensures.checked;
          live = c.build_in-outcome.ensures.live;
          calls = c.build_in-outcome.ensures.calls;
          output = c.build_in-outcome.ensures.output;
          special = c.build_in-outcome.ensures.special;
          damaged = c.build_in-outcome.ensures.damaged;
          forged = c.build_in-outcome.ensures.forged;
          spent = c.build_in-outcome.ensures.spent;
          complete = c.build_in-outcome.ensures.complete;
        };
        errors = c.build_in-outcome.ensures.errors;
        order = c.build_in-outcome.ensures.order;
      });
      queried = unqueried c.in-Ok.asked _ _ _ _ _ _ _ _ _ c.in-Build.is;
      query = a-query c.in-Ok.asked _ _ c.in-Build.is tt;
      generated = a-gen c.in-Ok.asked _ _ c.in-Build.is tt;
      apart = a-gen c.in-Ok.asked _ _ c.in-Build.is tt;
      counted = c.build_in-outcome.ensures.counts;
      error_counts = c.build_in-outcome.ensures.error_counts;
      steady = λ s. c.build_in-outcome.ensures.steady s.folder s.out s.err;
    }) c.tell.ensures.tells c.tell.ensures.steady

pub returns-in-Check : goal.returns-in-Check
returns-in-Check g c =
    let mid : Outside = record {
      reach = g.F.Folder.reach c.finish.new.folder;
      held = g.F.Folder.told c.finish.new.folder;
      schedule = g.F.Folder.schedule c.finish.new.folder;
      reads = g.F.Folder.read_faults c.finish.new.folder;
      writes = g.F.Folder.write_faults c.finish.new.folder;
      memory = g.F.Folder.memory_failures c.finish.new.folder;
      out = record { so_far = g.O.Sink.so_far c.args.out.now; faults = g.O.Sink.faults c.args.out.now; memory = g.O.Sink.memory_failures c.args.out.now };
      err = record { so_far = g.E.Sink.so_far c.args.err.now; faults = g.E.Sink.faults c.args.err.now; memory = g.E.Sink.memory_failures c.args.err.now };
      steady = record { folder = g.F.Folder.steady c.finish.new.folder; out = g.O.Sink.steady c.args.out.now; err = g.E.Sink.steady c.args.err.now };
      live = c.args.live.now;
    } in
    let worked : Outside = record {
      reach = g.F.Folder.reach c.check_records-outcome.new.folder;
      held = g.F.Folder.told c.check_records-outcome.new.folder;
      schedule = g.F.Folder.schedule c.check_records-outcome.new.folder;
      reads = g.F.Folder.read_faults c.check_records-outcome.new.folder;
      writes = g.F.Folder.write_faults c.check_records-outcome.new.folder;
      memory = g.F.Folder.memory_failures c.check_records-outcome.new.folder;
      out = record { so_far = g.O.Sink.so_far c.check_records-outcome.new.out; faults = g.O.Sink.faults c.check_records-outcome.new.out; memory = g.O.Sink.memory_failures c.check_records-outcome.new.out };
      err = record { so_far = g.E.Sink.so_far c.args.err.now; faults = g.E.Sink.faults c.args.err.now; memory = g.E.Sink.memory_failures c.args.err.now };
      steady = record { folder = g.F.Folder.steady c.check_records-outcome.new.folder; out = g.O.Sink.steady c.check_records-outcome.new.out; err = g.E.Sink.steady c.args.err.now };
      live = c.args.live.now;
    } in
    after-asked (map string_bytes c.args.words.now) c.in-Ok.asked _ mid worked _ _ c.check_records-outcome.result c.tell-in-Check.result c.in-Ok.ensures.asked (precedes (is_of_folder c.in-Ok.asked) _ mid c.in-None.ensures.told (λ off. let a = c.in-None.ensures.apart off in (a.0, a.1)) c.in-None.ensures.looks c.in-None.ensures.cause c.in-None.ensures.writes c.in-None.ensures.memory c.in-None.ensures.steady.0 refl refl refl refl refl) (works-as _ _ _ worked _ c.in-Check.is (works-of _ _ worked _ (answer-asked _ _ c.check_records-outcome.ensures.asked.1) tt c.check_records-outcome.ensures.asked (record { live = refl; errors = refl; looks = c.check_records-outcome.ensures.calls }) tt tt c.check_records-outcome.ensures.counts (λ s. c.check_records-outcome.ensures.steady s.folder s.out) refl refl)) c.tell-in-Check.ensures.tells c.tell-in-Check.ensures.steady

pub returns-in-Trace : goal.returns-in-Trace
returns-in-Trace g c =
    let mid : Outside = record {
      reach = g.F.Folder.reach c.finish.new.folder;
      held = g.F.Folder.told c.finish.new.folder;
      schedule = g.F.Folder.schedule c.finish.new.folder;
      reads = g.F.Folder.read_faults c.finish.new.folder;
      writes = g.F.Folder.write_faults c.finish.new.folder;
      memory = g.F.Folder.memory_failures c.finish.new.folder;
      out = record { so_far = g.O.Sink.so_far c.args.out.now; faults = g.O.Sink.faults c.args.out.now; memory = g.O.Sink.memory_failures c.args.out.now };
      err = record { so_far = g.E.Sink.so_far c.args.err.now; faults = g.E.Sink.faults c.args.err.now; memory = g.E.Sink.memory_failures c.args.err.now };
      steady = record { folder = g.F.Folder.steady c.finish.new.folder; out = g.O.Sink.steady c.args.out.now; err = g.E.Sink.steady c.args.err.now };
      live = c.args.live.now;
    } in
    let worked : Outside = record {
      reach = g.F.Folder.reach c.show_records-outcome.new.folder;
      held = g.F.Folder.told c.show_records-outcome.new.folder;
      schedule = g.F.Folder.schedule c.show_records-outcome.new.folder;
      reads = g.F.Folder.read_faults c.show_records-outcome.new.folder;
      writes = g.F.Folder.write_faults c.show_records-outcome.new.folder;
      memory = g.F.Folder.memory_failures c.show_records-outcome.new.folder;
      out = record { so_far = g.O.Sink.so_far c.show_records-outcome.new.out; faults = g.O.Sink.faults c.show_records-outcome.new.out; memory = g.O.Sink.memory_failures c.show_records-outcome.new.out };
      err = record { so_far = g.E.Sink.so_far c.args.err.now; faults = g.E.Sink.faults c.args.err.now; memory = g.E.Sink.memory_failures c.args.err.now };
      steady = record { folder = g.F.Folder.steady c.show_records-outcome.new.folder; out = g.O.Sink.steady c.show_records-outcome.new.out; err = g.E.Sink.steady c.args.err.now };
      live = c.args.live.now;
    } in
    after-asked (map string_bytes c.args.words.now) c.in-Ok.asked _ mid worked _ _ c.show_records-outcome.result c.tell-in-Trace.result c.in-Ok.ensures.asked (precedes (is_of_folder c.in-Ok.asked) _ mid c.in-None.ensures.told (λ off. let a = c.in-None.ensures.apart off in (a.0, a.1)) c.in-None.ensures.looks c.in-None.ensures.cause c.in-None.ensures.writes c.in-None.ensures.memory c.in-None.ensures.steady.0 refl refl refl refl refl) (works-as _ _ _ worked _ c.in-Trace.is (works-of _ _ worked _ (answer-asked _ _ c.show_records-outcome.ensures.asked.1) tt c.show_records-outcome.ensures.asked (record { live = refl; errors = refl; looks = c.show_records-outcome.ensures.calls }) tt tt c.show_records-outcome.ensures.counts (λ s. c.show_records-outcome.ensures.steady s.folder s.out) refl refl)) c.tell-in-Trace.ensures.tells c.tell-in-Trace.ensures.steady

pub returns-in-Forget : goal.returns-in-Forget
returns-in-Forget g c =
    let mid : Outside = record {
      reach = g.F.Folder.reach c.finish.new.folder;
      held = g.F.Folder.told c.finish.new.folder;
      schedule = g.F.Folder.schedule c.finish.new.folder;
      reads = g.F.Folder.read_faults c.finish.new.folder;
      writes = g.F.Folder.write_faults c.finish.new.folder;
      memory = g.F.Folder.memory_failures c.finish.new.folder;
      out = record { so_far = g.O.Sink.so_far c.args.out.now; faults = g.O.Sink.faults c.args.out.now; memory = g.O.Sink.memory_failures c.args.out.now };
      err = record { so_far = g.E.Sink.so_far c.args.err.now; faults = g.E.Sink.faults c.args.err.now; memory = g.E.Sink.memory_failures c.args.err.now };
      steady = record { folder = g.F.Folder.steady c.finish.new.folder; out = g.O.Sink.steady c.args.out.now; err = g.E.Sink.steady c.args.err.now };
      live = c.args.live.now;
    } in
    let worked : Outside = record {
      reach = g.F.Folder.reach c.forget_records-outcome.new.folder;
      held = g.F.Folder.told c.forget_records-outcome.new.folder;
      schedule = g.F.Folder.schedule c.forget_records-outcome.new.folder;
      reads = g.F.Folder.read_faults c.forget_records-outcome.new.folder;
      writes = g.F.Folder.write_faults c.forget_records-outcome.new.folder;
      memory = g.F.Folder.memory_failures c.forget_records-outcome.new.folder;
      out = record { so_far = g.O.Sink.so_far c.forget_records-outcome.new.out; faults = g.O.Sink.faults c.forget_records-outcome.new.out; memory = g.O.Sink.memory_failures c.forget_records-outcome.new.out };
      err = record { so_far = g.E.Sink.so_far c.args.err.now; faults = g.E.Sink.faults c.args.err.now; memory = g.E.Sink.memory_failures c.args.err.now };
      steady = record { folder = g.F.Folder.steady c.forget_records-outcome.new.folder; out = g.O.Sink.steady c.forget_records-outcome.new.out; err = g.E.Sink.steady c.args.err.now };
      live = c.args.live.now;
    } in
    after-asked (map string_bytes c.args.words.now) c.in-Ok.asked _ mid worked _ _ c.forget_records-outcome.result c.tell-in-Forget.result c.in-Ok.ensures.asked (precedes (is_of_folder c.in-Ok.asked) _ mid c.in-None.ensures.told (λ off. let a = c.in-None.ensures.apart off in (a.0, a.1)) c.in-None.ensures.looks c.in-None.ensures.cause c.in-None.ensures.writes c.in-None.ensures.memory c.in-None.ensures.steady.0 refl refl refl refl refl) (works-as _ _ _ worked _ c.in-Forget.is (works-of _ _ worked _ (answer-asked _ _ c.forget_records-outcome.ensures.asked) tt c.forget_records-outcome.ensures.asked (record { live = refl; errors = refl; looks = c.forget_records-outcome.ensures.calls }) tt tt c.forget_records-outcome.ensures.counts (λ s. c.forget_records-outcome.ensures.steady s.folder s.out) refl refl)) c.tell-in-Forget.ensures.tells c.tell-in-Forget.ensures.steady

pub returns-in-Gen : goal.returns-in-Gen
returns-in-Gen g c =
    let mid : Outside = record {
      reach = g.F.Folder.reach c.finish.new.folder;
      held = g.F.Folder.told c.finish.new.folder;
      schedule = g.F.Folder.schedule c.finish.new.folder;
      reads = g.F.Folder.read_faults c.finish.new.folder;
      writes = g.F.Folder.write_faults c.finish.new.folder;
      memory = g.F.Folder.memory_failures c.finish.new.folder;
      out = record { so_far = g.O.Sink.so_far c.args.out.now; faults = g.O.Sink.faults c.args.out.now; memory = g.O.Sink.memory_failures c.args.out.now };
      err = record { so_far = g.E.Sink.so_far c.args.err.now; faults = g.E.Sink.faults c.args.err.now; memory = g.E.Sink.memory_failures c.args.err.now };
      steady = record { folder = g.F.Folder.steady c.finish.new.folder; out = g.O.Sink.steady c.args.out.now; err = g.E.Sink.steady c.args.err.now };
      live = c.args.live.now;
    } in
    let worked : Outside = record {
      reach = g.F.Folder.reach c.finish.new.folder;
      held = g.F.Folder.told c.finish.new.folder;
      schedule = g.F.Folder.schedule c.finish.new.folder;
      reads = g.F.Folder.read_faults c.finish.new.folder;
      writes = g.F.Folder.write_faults c.finish.new.folder;
      memory = g.F.Folder.memory_failures c.finish.new.folder;
      out = record { so_far = g.O.Sink.so_far c.tell_workload-outcome.new.out; faults = g.O.Sink.faults c.tell_workload-outcome.new.out; memory = g.O.Sink.memory_failures c.tell_workload-outcome.new.out };
      err = record { so_far = g.E.Sink.so_far c.args.err.now; faults = g.E.Sink.faults c.args.err.now; memory = g.E.Sink.memory_failures c.args.err.now };
      steady = record { folder = g.F.Folder.steady c.finish.new.folder; out = g.O.Sink.steady c.tell_workload-outcome.new.out; err = g.E.Sink.steady c.args.err.now };
      live = c.tell_workload-outcome.new.live;
    } in
    after-asked (map string_bytes c.args.words.now) c.in-Ok.asked _ mid worked _ _ c.tell_workload-outcome.result c.tell-in-Gen.result c.in-Ok.ensures.asked (precedes (is_of_folder c.in-Ok.asked) _ mid c.in-None.ensures.told (λ off. let a = c.in-None.ensures.apart off in (a.0, a.1)) c.in-None.ensures.looks c.in-None.ensures.cause c.in-None.ensures.writes c.in-None.ensures.memory c.in-None.ensures.steady.0 refl refl refl refl refl) (works-as _ _ _ worked _ c.in-Gen.is (works-of _ _ worked _ (line-asked _ _ _ _ _ _ c.tell_workload-outcome.ensures.says) tt tt tt c.tell_workload-outcome.ensures.says (refl, refl) (λ errors. c.tell_workload-outcome.ensures.counts (g.F.Folder.read_faults c.finish.new.folder) (g.F.Folder.write_faults c.finish.new.folder) errors) (λ s. c.tell_workload-outcome.ensures.steady s.out) refl refl)) c.tell-in-Gen.ensures.tells c.tell-in-Gen.ensures.steady

pub returns-in-Some : goal.returns-in-Some
returns-in-Some g c =
    let worked : Outside = record {
      reach = g.F.Folder.reach c.finish.new.folder;
      held = g.F.Folder.told c.finish.new.folder;
      schedule = g.F.Folder.schedule c.finish.new.folder;
      reads = g.F.Folder.read_faults c.finish.new.folder;
      writes = g.F.Folder.write_faults c.finish.new.folder;
      memory = g.F.Folder.memory_failures c.finish.new.folder;
      out = record { so_far = g.O.Sink.so_far c.args.out.now; faults = g.O.Sink.faults c.args.out.now; memory = g.O.Sink.memory_failures c.args.out.now };
      err = record { so_far = g.E.Sink.so_far c.args.err.now; faults = g.E.Sink.faults c.args.err.now; memory = g.E.Sink.memory_failures c.args.err.now };
      steady = record { folder = g.F.Folder.steady c.finish.new.folder; out = g.O.Sink.steady c.args.out.now; err = g.E.Sink.steady c.args.err.now };
      live = c.args.live.now;
    } in
    after-stop (map string_bytes c.args.words.now) c.in-Ok.asked _ worked _ _ c.outcome_of_recovery-outcome.result c.tell-in-Some.result c.in-Ok.ensures.asked
    (stops-first c.in-Ok.asked _ worked c.in-Some.e _ c.outcome_of_recovery-outcome.ensures c.in-Some.ensures.told (λ off. not-none c.in-Some.e (c.in-Some.ensures.apart off).2) c.in-Some.ensures.cause c.in-Some.ensures.writes c.in-Some.ensures.steady refl refl refl refl)
    c.tell-in-Some.ensures.tells c.tell-in-Some.ensures.steady

pub returns-in-Err-Usage : goal.returns-in-Err-Usage
returns-in-Err-Usage g c = after-none (map string_bytes c.args.words.now) _ _ _ _ (c.in-Err-Usage.ensures.usage (assumption c.in-Err-Usage)) c.tell-in-Err-Usage.ensures.tells c.tell-in-Err-Usage.ensures.steady

pub returns-in-Err-NoMemory : goal.returns-in-Err-NoMemory
returns-in-Err-NoMemory g c = after-unread (map string_bytes c.args.words.now) _ _ _ _ c.tell-in-Err-NoMemory.ensures.tells c.tell-in-Err-NoMemory.ensures.steady
