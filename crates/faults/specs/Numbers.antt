-- The fixed numbers of reasons, buffers and layers.
use Rattle.std.specs.Prelude.{ℕ}
use Rattle.faults.specs.declared.Reason.{Reason}
use Rattle.faults.specs.declared.Reason.TheVariants.{TooLong, Unknown, Misplaced, Bounds, Variables, Nesting, Formulas}
use Rattle.faults.specs.declared.Buffer.{Buffer}
use Rattle.faults.specs.declared.Buffer.TheVariants.{Index, Rows, BookText, Output}
use Rattle.faults.specs.declared.Layer.{Layer}
use Rattle.faults.specs.declared.Layer.TheVariants as layer
use Rattle.faults.specs.declared.Fault.{Fault}
use Rattle.faults.specs.declared.Fault.TheVariants.{Text, Short}

abbrev pub reason_number : Reason → ℕ
reason_number TooLong = 1
reason_number Unknown = 2
reason_number Misplaced = 3
reason_number Bounds = 4
reason_number Variables = 5
reason_number Nesting = 6
reason_number Formulas = 7

abbrev pub buffer_number : Buffer → ℕ
buffer_number Index = 0
buffer_number Rows = 1
buffer_number BookText = 2
buffer_number Output = 3

-- a buffer that is too short is refusal 19
abbrev pub fault_number : Fault → ℕ
fault_number (Text f) = reason_number f.reason
fault_number (Short b) = 19

abbrev pub layer_number : Layer → ℕ
layer_number layer.Text = 1
layer_number layer.Card = 2
layer_number layer.Play = 3
layer_number layer.Book = 4

-- a short buffer belongs to the card's layer
abbrev pub fault_layer : Fault → Layer
fault_layer (Text f) = layer.Text
fault_layer (Short b) = layer.Card

-- the byte of the text, or the buffer's number
abbrev pub fault_place : Fault → ℕ
fault_place (Text f) = f.place
fault_place (Short b) = buffer_number b
