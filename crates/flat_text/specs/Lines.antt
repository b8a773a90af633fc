-- What the words of one line say.
use Rattle.std.specs.Prelude.{ℕ, List, [], ◌∷◌, Option, Some, None, option_map, option_and_then, codes, bytes_eq, if◌then◌else◌}
use Rattle.flat_text.specs.declared.line.Keyword.{Keyword}
use Rattle.flat_text.specs.declared.line.Keyword.TheVariants as keyword
use Rattle.flat_text.specs.declared.line.Line.{Line}
use Rattle.flat_text.specs.declared.line.Line.TheVariants as line
use Rattle.flat_text.specs.declared.module.Port.{Port}
use Rattle.flat_text.specs.declared.module.Port.TheVariants as port
use Rattle.flat_text.specs.Constants.{number_of, constant_of, identifier_of, operand_of}
use Rattle.flat_text.specs.Words.{one_of, two_of}

abbrev pub keyword_of : List ℕ → Option Keyword
keyword_of word =
    if bytes_eq word (codes "autoidx") then Some keyword.Autoidx else (
    if bytes_eq word (codes "attribute") then Some keyword.Attribute else (
    if bytes_eq word (codes "module") then Some keyword.Module else (
    if bytes_eq word (codes "wire") then Some keyword.Wire else (
    if bytes_eq word (codes "cell") then Some keyword.Cell else (
    if bytes_eq word (codes "parameter") then Some keyword.Parameter else (
    if bytes_eq word (codes "connect") then Some keyword.Connect else (
    if bytes_eq word (codes "end") then Some keyword.End else None)))))))

-- a number
unfoldable pub autoidx_of : List (List ℕ) → Option Line
autoidx_of words = option_and_then (λ word. option_map (λ _. line.Autoidx) (number_of word)) (one_of words)

-- an identifier and a constant
unfoldable pub attribute_of : List (List ℕ) → Option Line
attribute_of words = option_and_then (λ (name, value). option_and_then (λ n. option_map (λ v. line.Attribute (record { name = n; value = v })) (constant_of value)) (identifier_of name)) (two_of words)

-- an identifier
unfoldable pub module_line_of : List (List ℕ) → Option Line
module_line_of words = option_and_then (λ word. option_map line.Module (identifier_of word)) (one_of words)

-- a number, and the words behind it, of which there is one at least
abbrev pub numbered : List (List ℕ) → Option (ℕ × List (List ℕ))
numbered (word ∷ next ∷ rest) = option_map (λ n. (n, next ∷ rest)) (number_of word)
numbered _ = None

-- an identifier, as a wire
unfoldable pub named_wire_of : ℕ → Port → List (List ℕ) → Option Line
named_wire_of width side words = option_and_then (λ word. option_map (λ name. line.Wire width side name) (identifier_of word)) (one_of words)

-- the word that makes a wire a port
abbrev pub side_of : List ℕ → Option Port
side_of word = if bytes_eq word (codes "input") then Some port.Input else (if bytes_eq word (codes "output") then Some port.Output else None)

-- a port has a number, which is dropped, before its identifier
unfoldable pub wire_on_side : ℕ → Option Port → List ℕ → List (List ℕ) → Option Line
wire_on_side width (Some side) first rest = option_and_then (λ (_, words). named_wire_of width side words) (numbered rest)
wire_on_side width None first rest = named_wire_of width port.Internal (first ∷ rest)

-- whether the wire is a port, and its identifier
unfoldable pub sided_wire_of : ℕ → List (List ℕ) → Option Line
sided_wire_of width [] = None
sided_wire_of width (first ∷ rest) = wire_on_side width (side_of first) first rest

-- a wire, with the width 1 where none is written
unfoldable pub wire_of : List (List ℕ) → Option Line
wire_of [] = None
wire_of (first ∷ rest) =
    if bytes_eq first (codes "width") then option_and_then (λ (width, words). sided_wire_of width words) (numbered rest) else
    sided_wire_of 1 (first ∷ rest)

-- two identifiers: the type and the name
unfoldable pub cell_of : List (List ℕ) → Option Line
cell_of words = option_and_then (λ (kind, name). option_and_then (λ k. option_map (λ n. line.Cell k n) (identifier_of name)) (identifier_of kind)) (two_of words)

-- an identifier and a constant
unfoldable pub parameter_of : List (List ℕ) → Option Line
parameter_of words = option_and_then (λ (name, value). option_and_then (λ n. option_map (λ v. line.Parameter (record { name = n; value = v })) (constant_of value)) (identifier_of name)) (two_of words)

-- an identifier, and an identifier or digits
unfoldable pub connection_of : List (List ℕ) → Option Line
connection_of words = option_and_then (λ (name, value). option_and_then (λ p. option_map (λ v. line.Connect (record { port = p; to = v })) (operand_of value)) (identifier_of name)) (two_of words)

-- nothing more
abbrev pub end_of : List (List ℕ) → Option Line
end_of [] = Some line.End
end_of _ = None

-- what stands behind a keyword
abbrev pub keyed_line : Keyword → List (List ℕ) → Option Line
keyed_line keyword.Autoidx words = autoidx_of words
keyed_line keyword.Attribute words = attribute_of words
keyed_line keyword.Module words = module_line_of words
keyed_line keyword.Wire words = wire_of words
keyed_line keyword.Cell words = cell_of words
keyed_line keyword.Parameter words = parameter_of words
keyed_line keyword.Connect words = connection_of words
keyed_line keyword.End words = end_of words

-- what the words of a line say
unfoldable pub line_of : List (List ℕ) → Option Line
line_of [] = None
line_of (first ∷ rest) = option_and_then (λ k. keyed_line k rest) (keyword_of first)
