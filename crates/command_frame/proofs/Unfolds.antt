-- What a program that is read unfolds to is that of a program of nodes.
use Rattle.std.proofs.Common.{ℕ, ◌≡◌, ◌+◌, ◌≤◌, List, [], ◌∷◌, length, subst, ◌∙◌, sym, arith}
use Rattle.fc_lexer.specs.Kinds.{TokenView}
use Rattle.fc_lexer.specs.Laws.{SpansRise, StandFrom}
use Rattle.fc_parser.specs.Laws.{DerivedIsPrintable, FewDeclarations}
use Rattle.fc_nodes.specs.Program.{Unfolding}
use Rattle.net_json.specs.Judging as scene
use Rattle.net_json.specs.Scenes.{SceneValue, scene_of}
use Rattle.unfold.specs.Laws.{ProgramsUnfold}
use Rattle.command_frame.specs.Causes.{Judged, Accepted, Refused, AndThen}
use Rattle.command_frame.specs.Inputs.{InputOf, ReadsInput, TextsUnfold, with_scene}
use Rattle.command_frame.specs.Sources.{IsProgramText, ReadsProgram}

-- no more tokens than bytes
few_tokens : (text : List ℕ) (least : ℕ) (ts : List TokenView) → StandFrom text least ts → least + length ts ≤ length text
few_tokens text least [] h = let end = h.0 in omega (arith, end)
few_tokens text least (t ∷ ts) h =
    let begin = h.0 in
    let some = h.2 in
    let rest = few_tokens text t.end ts h.5 in
    omega (arith, begin, some, rest)

-- the program of an accepted input is that of its text
is_text : (program network : List ℕ) (i : InputOf) → ReadsInput program network (Accepted i) → IsProgramText program i.0
is_text program network i r = by_program r.judged r.reads r.scene
  where
    by_scene : (U : Unfolding) (k : scene.JudgedScene SceneValue) → IsProgramText program U → Accepted i ≡ with_scene U k → IsProgramText program i.0
    by_scene U (scene.Refused refusal) text e = absurd cc
    by_scene U (scene.Accepted s) text e =
        let same : (U, s) ≡ i = cc in
        subst (λ (x : InputOf). IsProgramText program x.0) same text

    by_program : (q : Judged Unfolding) → ReadsProgram program q → AndThen q (λ U k. k ≡ with_scene U (scene_of U network)) (Accepted i) → IsProgramText program i.0
    by_program (Refused cause) text e = absurd cc
    by_program (Accepted U) text e = by_scene U (scene_of U network) text e

pub texts_unfold : SpansRise → DerivedIsPrintable → FewDeclarations → ProgramsUnfold → TextsUnfold
texts_unfold rise printable few unfolds text network i r =
    let h = is_text text network i r in
    let s = h.source in
    let short = r.short in
    let tokens = few_tokens text 0 s.tokens (rise text s.tokens s.lexes) in
    let declared = few s.tokens h.declarations s.derives in
    let p = unfolds h.declarations (printable text s.tokens h.declarations s.lexes s.derives) h.typed (omega (arith, tokens, declared, short)) h.few in
    (p.program, p.is, p.unfolds ∙ sym h.unfolds)
