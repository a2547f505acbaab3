pub mod CodedLength
