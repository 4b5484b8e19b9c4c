-- Contexts, part by part.
use Rattle.std.proofs.Common.{◌≡◌, ℕ, ◌<◌, ◌≤◌, ◌^◌, Bool, true, false, List, [], ◌∷◌, ◌++◌, length, IsTrue}
use Rattle.std.proofs.Common.{sym, ap, subst, ◌∙◌, refl, arith, append_assoc}
use Rattle.std.proofs.lemmas.Bool.{false≢true}
use Rattle.std.specs.List.{AllByRecursion}
use Rattle.road_base.specs.Bytes.{u32_bytes, joined}
use Rattle.road_model.specs.declared.lists.PieceName.{PieceName}
use Rattle.road_model.specs.declared.lists.TurnArc.{TurnArc}
use Rattle.road_model.specs.declared.lists.Context.{Context}
use Rattle.road_model.specs.Format.{name_bytes, mark_bytes, source_bytes, sources_bytes, context_bytes, NameFits}
use Rattle.road_model.specs.Format.{AreSourcesForm}
use Rattle.road_model.specs.Format.{SourcesFit}
use Rattle.spelled_bytes.specs.Reading.{Begins, NoneBegins}
use Rattle.spelled_bytes.specs.OneSpelling.{u32_one}
use Rattle.spelled_bytes.proofs.Fronts.{unfit_missing}
use Rattle.graph_file.specs.GraphReading.{MarkFits, list_bytes, ListFits, SourceFits, SourcesAre, Unless}
use Rattle.graph_file.specs.GraphReading.{IsBareContext, AreArcsOf, AreSourcesOf, IsContext}
use Rattle.graph_file.specs.OneSpelling.{ContextLists, lists_bytes, ListsFit, lists_of, lists_one, context_lists}
use Rattle.graph_file.specs.OneSpelling.{context_spelled}

-- where one name is announced, one begins
pub no_name : (bytes : List ℕ) (n : ℕ) (rest : List ℕ) → Begins u32_bytes (λ n. n < 2 ^ 32) bytes n rest → n ≡ 1
    → NoneBegins name_bytes NameFits rest → NoneBegins source_bytes SourceFits bytes
no_name bytes n rest found one none [] r whole =
    let same = u32_one n 0 bytes rest r found (record { fits = whole.fits.0; parts = whole.parts }) in
    omega (arith, one, same.0)
no_name bytes n rest found one none (s ∷ ss) r whole =
    let behind : List ℕ = joined name_bytes ss ++ r in
    let same = u32_one n (length (s ∷ ss)) bytes rest (joined name_bytes (s ∷ ss) ++ r) found
    (record {
      fits = whole.fits.0;
      parts = whole.parts ∙ append_assoc (u32_bytes (length (s ∷ ss))) (joined name_bytes (s ∷ ss)) r;
    }) in
    none s behind
    (record { fits = whole.fits.1.0; parts = same.1 ∙ append_assoc (name_bytes s) (joined name_bytes ss) r })

-- a mark or sources, none where none are spelled
pub no_sources : (sourced : Bool) (bytes : List ℕ) → sourced ≡ false
    → Begins (sources_bytes sourced) (SourcesAre sourced) bytes [] bytes
no_sources false bytes none = record { fits = refl; parts = refl }
no_sources true bytes none = absurd (false≢true (sym none))

pub no_mark : (sourced : Bool) (bytes : List ℕ) → sourced ≡ false
    → Begins (mark_bytes sourced) (MarkFits sourced) bytes false bytes
no_mark false bytes none = record { fits = refl; parts = refl }
no_mark true bytes none = absurd (false≢true (sym none))

-- sources that are spelled
pub some_sources : (sourced : Bool) (bytes : List ℕ) (ss : List (List PieceName)) (rest : List ℕ) → sourced ≡ true
    → Begins (list_bytes source_bytes) (ListFits SourceFits) bytes ss rest
    → Begins (sources_bytes sourced) (SourcesAre sourced) bytes ss rest
some_sources false bytes ss rest some found = absurd (false≢true some)
some_sources true bytes ss rest some found = record { fits = found.fits; parts = found.parts }

pub no_list : (sourced : Bool) (bytes : List ℕ) → sourced ≡ true
    → NoneBegins (list_bytes source_bytes) (ListFits SourceFits) bytes
    → NoneBegins (sources_bytes sourced) (SourcesAre sourced) bytes
no_list false bytes some none ss rest whole = absurd (false≢true some)
no_list true bytes some none ss rest whole =
    none ss rest (record { fits = whole.fits; parts = whole.parts })

-- ---- sources that a context may have

sizes_of : (n : ℕ) (ss : List (List PieceName))
    → AllByRecursion (λ s. (1 ≤ length s) × (n ≤ length s) × (length s < 2 ^ 32)) ss
    → AllByRecursion (λ s. (1 ≤ length s) × (n ≤ length s)) ss
sizes_of n [] all = tt
sizes_of n (s ∷ ss) all = ((all.0.0, all.0.1), sizes_of n ss all.1)

pub sources_of : (sourced : Bool) (c : Context) → IsContext sourced c → AreSourcesOf c.before c.sources
sources_of false c is = subst (AreSourcesOf c.before) (sym is.bare) (tt, refl)
sources_of true c is =
    let form = is.form.sources refl in (sizes_of (length c.before) c.sources form.some, form.ascend)

sized : (n : ℕ) (ss : List (List PieceName)) → AllByRecursion (λ s. (1 ≤ length s) × (n ≤ length s)) ss
    → AllByRecursion SourceFits ss → AllByRecursion (λ s. (1 ≤ length s) × (n ≤ length s) × (length s < 2 ^ 32)) ss
sized n [] all fit = tt
sized n (s ∷ ss) all fit = ((all.0.0, all.0.1, fit.0.0), sized n ss all.1 fit.1)

names_fit : (ss : List (List PieceName)) → AllByRecursion SourceFits ss → AllByRecursion (AllByRecursion NameFits) ss
names_fit [] fit = tt
names_fit (s ∷ ss) fit = (fit.0.1, names_fit ss fit.1)

sources_form : (sourced : Bool) (c : Context) → AreSourcesOf c.before c.sources → SourcesAre sourced c.sources
    → IsTrue sourced → AreSourcesForm c
sources_form false c of are so = absurd (false≢true so)
sources_form true c of are so =
    record { some = sized (length c.before) c.sources of.0 are.1; ascend = of.1 }

sources_fit : (sourced : Bool) (ss : List (List PieceName)) → SourcesAre sourced ss → IsTrue sourced → SourcesFit ss
sources_fit false ss are so = absurd (false≢true so)
sources_fit true ss are so = record { names = names_fit ss are.1; count = are.0 }

bare_context : (sourced : Bool) (c : Context) → SourcesAre sourced c.sources → Unless sourced (IsBareContext c)
bare_context false c are = are
bare_context true c are = tt

-- ---- contexts

-- the same under names that are equal
pub renamed : (sourced : Bool) (bytes : List ℕ) (front before : List PieceName) (arcs : List TurnArc)
    (sources : List (List PieceName)) (rest : List ℕ)
    → Begins (lists_bytes sourced) (ListsFit sourced) bytes (front, (arcs, sources)) rest → before ≡ front
    → Begins (lists_bytes sourced) (ListsFit sourced) bytes (before, (arcs, sources)) rest
renamed sourced bytes front before arcs sources rest found same =
    subst (λ (l : List PieceName). Begins (lists_bytes sourced) (ListsFit sourced) bytes (l, (arcs, sources)) rest)
    (sym same) found

-- what was read is no context's lists, so no context begins there
pub unfit_lists : (sourced : Bool) (bytes : List ℕ) (lists : ContextLists) (rest : List ℕ)
    → Begins (lists_bytes sourced) (ListsFit sourced) bytes lists rest
    → (AreArcsOf lists.0 lists.1.0 × AreSourcesOf lists.0 lists.1.1 → ⊥)
    → NoneBegins (context_bytes sourced) (IsContext sourced) bytes
unfit_lists sourced bytes lists rest found unfit c r whole =
    unfit_missing (lists_bytes sourced) (ListsFit sourced)
    (λ l. AreArcsOf l.0 l.1.0 × AreSourcesOf l.0 l.1.1) (lists_one sourced) bytes lists rest found unfit
    (lists_of c) r (context_lists sourced c bytes r whole)
    ((whole.fits.form.arcs_ascend, whole.fits.form.targets), sources_of sourced c whole.fits)

pub whole_context : (sourced : Bool) (c : Context) (bytes rest : List ℕ)
    → Begins (lists_bytes sourced) (ListsFit sourced) bytes (lists_of c) rest
    → AreArcsOf c.before c.arcs → AreSourcesOf c.before c.sources
    → Begins (context_bytes sourced) (IsContext sourced) bytes c rest
whole_context sourced c bytes rest found arcs sources = record {
  fits = record {
    form = record {
      short = found.fits.0.0;
      arcs_ascend = arcs.0;
      targets = arcs.1;
      sources = sources_form sourced c sources found.fits.1.1;
    };
    fits = record {
      names = found.fits.0.1;
      arcs = found.fits.1.0.1;
      arc_count = found.fits.1.0.0;
      sources = sources_fit sourced c.sources found.fits.1.1;
    };
    bare = bare_context sourced c found.fits.1.1;
  };
  parts = found.parts ∙ ap (λ l. l ++ rest) (sym (context_spelled sourced c));
}
