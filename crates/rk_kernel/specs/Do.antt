-- What the world answers to a call.
use Rattle.std.specs.Prelude.{ℕ, ◌+◌, [], ◌∷◌, length, not, true, false, if◌then◌else◌, Option, Some, None, slice_get}
use Rattle.rk_base.specs.Text.{Text}
use Rattle.rk_base.specs.Canonical.{is_empty}
use Rattle.rk_base.specs.declared.errno.Errno.TheVariants.{BadRef, Invalid}
use Rattle.rk_calls.specs.declared.call.Call.{Call}
use Rattle.rk_calls.specs.declared.call.Call.TheVariants as call
use Rattle.rk_calls.specs.declared.answer.Answer.TheVariants as answer
use Rattle.rk_calls.specs.Given.{Given}
use Rattle.rk_calls.specs.Refs.{RefsHeld, ref_at, with_opened}
use Rattle.rk_walk.specs.Walk.{Spot, resolve}
use Rattle.rk_kernel.specs.World.{World, rest_of, line_of, after_read, after_read_line, after_write, with_pipe}
use Rattle.rk_kernel.specs.Changes.{mkdir_at, rmdir_at, unlink_at, rename_at, symlink_at, link_at, chmod_at}
use Rattle.rk_kernel.specs.Opening.{open_at}
use Rattle.rk_kernel.specs.Questions.{stat_at, list_at, read_link_at, walk_at, same_at}
use Rattle.rk_kernel.specs.Rows.{refused, giving, unless, strict, at_place}
use Rattle.rk_kernel.specs.declared.description.Description.{Description}

-- Read

-- by the description of this number
abbrev pub read_by : World → RefsHeld → ℕ → Option Description → Given World
read_by world refs k None = refused world refs BadRef
read_by world refs k (Some d) =
    unless world refs ((not d.read, BadRef) ∷ []) (giving (after_read world k d d.source) refs (answer.Content (rest_of world d.offset d.source)))

abbrev pub read_ref : World → RefsHeld → Option ℕ → Given World
read_ref world refs None = refused world refs BadRef
read_ref world refs (Some k) = read_by world refs k (slice_get world.opens k)

-- ReadLine

abbrev pub read_line_by : World → RefsHeld → ℕ → Option Description → Given World
read_line_by world refs k None = refused world refs BadRef
read_line_by world refs k (Some d) =
    unless world refs ((not d.read, BadRef) ∷ []) (giving (after_read_line world k d d.source) refs (answer.Content (line_of (rest_of world d.offset d.source))))

abbrev pub read_line_ref : World → RefsHeld → Option ℕ → Given World
read_line_ref world refs None = refused world refs BadRef
read_line_ref world refs (Some k) = read_line_by world refs k (slice_get world.opens k)

-- Write

abbrev pub write_by : World → RefsHeld → Text → ℕ → Option Description → Given World
write_by world refs bytes k None = refused world refs BadRef
write_by world refs bytes k (Some d) =
    unless world refs ((not d.write, BadRef) ∷ []) (giving (if is_empty bytes then world else after_write world k d bytes d.source) refs answer.Done)

abbrev pub write_ref : World → RefsHeld → Text → Option ℕ → Given World
write_ref world refs bytes None = refused world refs BadRef
write_ref world refs bytes (Some k) = write_by world refs bytes k (slice_get world.opens k)

-- Pipe: the command's next two numbers stand for its ends, the read end first

abbrev pub piped : World → RefsHeld → Given World
piped world refs = giving (with_pipe world) (with_opened (with_opened refs (length world.opens)) (length world.opens + 1)) answer.Piped

-- where a path leads, with its last link followed, or not

abbrev pub followed : World → Text → Spot
followed world path = strict (resolve world.tree path true)

abbrev pub itself : World → Text → Spot
itself world path = strict (resolve world.tree path false)

-- by cases on the call; a launch is not the world's to answer
abbrev pub answered : World → RefsHeld → Call → Given World
answered world refs (call.Open path how) = at_place world refs (followed world path) (open_at world refs how)
answered world refs (call.Read r) = read_ref world refs (ref_at refs r)
answered world refs (call.ReadLine r) = read_line_ref world refs (ref_at refs r)
answered world refs (call.Write r bytes) = write_ref world refs bytes (ref_at refs r)
answered world refs (call.Stat path follow) = at_place world refs (resolve world.tree path follow) (stat_at world refs)
answered world refs (call.List path) = at_place world refs (followed world path) (list_at world refs)
answered world refs (call.ReadLink path) = at_place world refs (itself world path) (read_link_at world refs)
answered world refs (call.Walk path) = at_place world refs (followed world path) (walk_at world refs)
answered world refs (call.Same a b) = at_place world refs (followed world a) (λ first. at_place world refs (followed world b) (same_at world refs first))
answered world refs (call.Mkdir path mode) = at_place world refs (resolve world.tree path false) (mkdir_at world refs mode)
answered world refs (call.Rmdir path) = at_place world refs (itself world path) (rmdir_at world refs)
answered world refs (call.Unlink path) = at_place world refs (itself world path) (unlink_at world refs)
answered world refs (call.Rename a b) = at_place world refs (itself world a) (λ from. at_place world refs (resolve world.tree b false) (rename_at world refs from))
answered world refs (call.Symlink text path) = at_place world refs (itself world path) (symlink_at world refs text)
answered world refs (call.Link a b) = at_place world refs (itself world a) (λ from. at_place world refs (itself world b) (link_at world refs from))
answered world refs (call.Chmod path mode) = at_place world refs (followed world path) (chmod_at world refs mode)
answered world refs call.Pipe = piped world refs
answered world refs (call.Launch key map) = refused world refs Invalid
