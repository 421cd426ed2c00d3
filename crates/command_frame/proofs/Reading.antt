-- Why texts are refused, as the code stops.
use Rattle.std.proofs.Common.{ℕ, ◌≡◌, ◌<◌, ◌≤◌, List, length, min, refl, ap, subst, sym}
use Rattle.fc_lexer.specs.Kinds.{TokenView}
use Rattle.fc_lexer.specs.declared.tokens.LexFault.{LexFault}
use Rattle.fc_lexer.specs.declared.tokens.LexFault.TheVariants as lex
use Rattle.fc_lexer.specs.Lexes.{Lexes, Stops}
use Rattle.fc_syntax.specs.Terms.{Declaration}
use Rattle.fc_parser.specs.declared.faults.ParseFault.{ParseFault}
use Rattle.fc_parser.specs.declared.faults.ParseFault.TheVariants as parse
use Rattle.fc_parser.specs.Faults.{Refuses}
use Rattle.fc_types.specs.declared.faults.TypeFault.{TypeFault}
use Rattle.fc_types.specs.declared.faults.TypeFault.TheVariants as types
use Rattle.fc_types.specs.Typing.{IsTyped}
use Rattle.fc_types.specs.Faults.{FirstFault}
use Rattle.fc_types.specs.Views.{IfFault}
use Rattle.fc_nodes.specs.Program.{Unfolding}
use Rattle.unfold.specs.declared.count.TheConstants.{MOST_COUNTED}
use Rattle.fc_values.specs.declared.limits.TheConstants.{MOST_BYTES, MOST_NODES}
use Rattle.unfold.specs.declared.faults.UnfoldFault.{UnfoldFault}
use Rattle.unfold.specs.declared.faults.UnfoldFault.TheVariants as size_fault
use Rattle.unfold.specs.Nodes.{Nodes}
use Rattle.unfold.specs.Writing.{IfTooLarge}
use Rattle.net_json.specs.declared.types.JsonFault.{JsonFault}
use Rattle.net_json.specs.declared.types.JsonFault.TheVariants as json
use Rattle.net_json.specs.Judging as scene
use Rattle.net_json.specs.Scenes.{SceneValue, scene_of}
use Rattle.command_frame.specs.declared.refusal.Refusal.TheVariants.{Nodes as Size}
use Rattle.command_frame.specs.declared.stop.Stop.{Stop}
use Rattle.command_frame.specs.declared.stop.Stop.TheVariants as stop
use Rattle.command_frame.specs.Causes.{Cause, Plainly, InScene, Accepted, Refused}
use Rattle.command_frame.specs.Sources.{IsSource, lexical, tokens, depth, syntax, no_source, ill_typed, too_large, ReadsSource, ReadsProgram}
use Rattle.command_frame.specs.Inputs.{with_scene, ReadsInput}
use Rattle.command_frame.specs.Stops.{StopsFor, lex_stop, parse_stop, type_stop, unfold_stop}
use Rattle.command_frame.proofs.Stopping.{stops_map}

pub by_bytes : (text : List ℕ) (f : LexFault) → Stops text f → StopsFor (λ cause. ReadsSource text (Refused cause)) (lex_stop f)
by_bytes text (lex.At at) h = lexical at h
by_bytes text lex.Memory h = tt

pub by_tokens : (text : List ℕ) (ts : List TokenView) (f : ParseFault) → Lexes text ts → Refuses ts f → StopsFor (λ cause. ReadsSource text (Refused cause)) (parse_stop f)
by_tokens text ts (parse.Tokens number count) l r = tokens ts number count l r
by_tokens text ts (parse.Depth number) l r = depth ts number l r
by_tokens text ts (parse.Syntax number line) l r = syntax ts number line l r.within r.at
by_tokens text ts parse.Memory l r = tt

pub by_source : (text : List ℕ) (s : Stop) → StopsFor (λ cause. ReadsSource text (Refused cause)) s → StopsFor (λ cause. ReadsProgram text (Refused cause)) s
by_source text s h = stops_map (λ cause. ReadsSource text (Refused cause)) (λ cause. ReadsProgram text (Refused cause)) (by_cause text) s h
  where
    by_cause : (t : List ℕ) (cause : Cause) → ReadsSource t (Refused cause) → ReadsProgram t (Refused cause)
    by_cause t (Plainly refusal) k = no_source refusal k
    by_cause t (InScene refusal) k = absurd k

pub by_types : (text : List ℕ) (ds : List Declaration) (f : TypeFault) → IsSource text ds → IfFault f (FirstFault ds) → StopsFor (λ cause. ReadsProgram text (Refused cause)) (type_stop f)
by_types text ds (types.Fault number kind) s h = ill_typed ds number kind s h
by_types text ds types.Memory s h = tt

pub by_size : (text : List ℕ) (ds : List Declaration) (f : UnfoldFault) → IsSource text ds → IsTyped ds → IfTooLarge f (λ n. MOST_NODES < length (Nodes ds)) → IfTooLarge f (λ n. n ≡ min MOST_COUNTED (length (Nodes ds)))
    → StopsFor (λ cause. ReadsProgram text (Refused cause)) (unfold_stop f)
by_size text ds (size_fault.TooLarge size) s t h k = subst (λ n. ReadsProgram text (Refused (Plainly (Size n)))) (sym k) (too_large ds s t h)
by_size text ds size_fault.Memory s t h k = tt

-- ---- a program and its scene
pub by_program : (program network : List ℕ) → length program ≤ MOST_BYTES → (s : Stop) → StopsFor (λ cause. ReadsProgram program (Refused cause)) s → StopsFor (λ cause. ReadsInput program network (Refused cause)) s
by_program program network short s h =
    stops_map (λ cause. ReadsProgram program (Refused cause)) (λ cause. ReadsInput program network (Refused cause)) (λ cause k. record { short = short; judged = Refused cause; reads = k; scene = refl }) s h

module _ (program network : List ℕ) (short : length program ≤ MOST_BYTES) (U : Unfolding) (h : ReadsProgram program (Accepted U)) where
  scene_refused : (refusal : scene.SceneRefusal) → scene_of U network ≡ scene.Refused refusal → ReadsInput program network (Refused (InScene refusal))
  scene_refused refusal e = record { short = short; judged = Accepted U; reads = h; scene = sym (ap (with_scene U) e) }

  pub by_scene : (f : JsonFault) → scene.RefusedWith (scene_of U network) f → StopsFor (λ cause. ReadsInput program network (Refused cause)) (stop.Scene f)
  by_scene json.Json e = scene_refused scene.NotJson e
  by_scene (json.Shape p) e = scene_refused (scene.Misshaped p.text.items) e
  by_scene (json.Net p fault) e = scene_refused (scene.BadNetwork p.text.items fault) e
  by_scene (json.Kept p place) e = scene_refused (scene.BadKept p.text.items place) e
  by_scene (json.Devices count) e = scene_refused (scene.TooManyDevices count) e
  by_scene json.Memory e = tt

  pub reads_input : (s : SceneValue) → scene_of U network ≡ scene.Accepted s → ReadsInput program network (Accepted (U, s))
  reads_input s e = record { short = short; judged = Accepted U; reads = h; scene = sym (ap (with_scene U) e) }
