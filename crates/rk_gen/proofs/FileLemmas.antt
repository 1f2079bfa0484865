-- Files that are put one after another.
use Rattle.std.proofs.Common.{◌≡◌, ℕ, ◌+◌, suc, ◌<◌, ◌≤◌, ◌∙◌, List, ◌∷◌, length, drop, get_or, sym, ap, add-one, drop-cons}
use Rattle.std.proofs.lemmas.List.{drop_all}
use Rattle.rk_folder.specs.Told.{Held}
use Rattle.rk_gen.specs.declared.files.File.{File}
use Rattle.rk_gen.specs.Changed.{with_file, with_files}

-- one more is put
pub put-more : (files : List File) (i : ℕ) (file : File) (held to last : Held) → i < length files → file ≡ get_or files i file → to ≡ with_file file held → with_files (drop i files) held ≡ last → with_files (drop (i + 1) files) to ≡ last
put-more files i file held to last h is e done =
    let split : drop i files ≡ file ∷ drop (suc i) files = drop-cons files i file h ∙ ap (λ (f : File). f ∷ drop (suc i) files) (sym is) in
    ap (with_files (drop (i + 1) files)) e ∙ rw add-one (sym (ap (λ (fs : List File). with_files fs held) split) ∙ done)

-- none is left
pub put-done : (files : List File) (i : ℕ) (held last : Held) → length files ≤ i → with_files (drop i files) held ≡ last → held ≡ last
put-done files i held last h e = sym (ap (λ (fs : List File). with_files fs held) (drop_all i files h)) ∙ e
