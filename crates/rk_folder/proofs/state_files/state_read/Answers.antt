use Rattle.rk_folder.proofs.LooksLemmas.{all-read, first-read, second-read}
use Rattle.rk_folder.proofs.state_files.state_read.Goals as goal

pub returns-in_err-attrs-clause-calls : goal.returns-in_err-attrs-clause-calls
returns-in_err-attrs-clause-calls g c = first-read c.args.skips_db _ _ _ c.in_ok-attrs_file.ensures c.bytes_of-2.ensures.calls

pub returns-in_err-db-clause-calls : goal.returns-in_err-db-clause-calls
returns-in_err-db-clause-calls g c = second-read c.args.skips_db _ _ _ _ _ c.in_ok-attrs_file.ensures c.in_ok-db_file.ensures c.bytes_of-2.ensures.calls c.bytes_unless-2.ensures.calls

pub returns-in_err-install_file-clause-calls : goal.returns-in_err-install_file-clause-calls
returns-in_err-install_file-clause-calls g c = second-read c.args.skips_db _ _ _ _ _ c.in_ok-attrs_file.ensures c.in_ok-db_file.ensures c.bytes_of-2.ensures.calls c.bytes_unless-2.ensures.calls

pub returns-in_err-install-clause-calls : goal.returns-in_err-install-clause-calls
returns-in_err-install-clause-calls g c =
    all-read c.args.skips_db _ _ _ _ _ _ _ _ c.in_ok-attrs_file.ensures c.in_ok-db_file.ensures c.in_ok-install_file.ensures c.bytes_of-2.ensures.calls c.bytes_unless-2.ensures.calls c.bytes_unless-4.ensures.calls

pub returns-clause-calls : goal.returns-clause-calls
returns-clause-calls g c =
    all-read c.args.skips_db _ _ _ _ _ _ _ _ c.in_ok-attrs_file.ensures c.in_ok-db_file.ensures c.in_ok-install_file.ensures c.bytes_of-2.ensures.calls c.bytes_unless-2.ensures.calls c.bytes_unless-4.ensures.calls
